-- The least of rules, part by part, for the proofs of this crate.
pub use Rattle.check_scope.proofs.Leasts.{least_append}
