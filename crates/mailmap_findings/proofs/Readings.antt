pub use Rattle.mailmap_findings.proofs.Read.{located_accepted, texts-located}
