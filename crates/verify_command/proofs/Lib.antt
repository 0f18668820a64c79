mod EachLine
mod Failing
mod Leaving
mod PrunedFiles
