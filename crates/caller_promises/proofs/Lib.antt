mod Appending
mod NormalLists
