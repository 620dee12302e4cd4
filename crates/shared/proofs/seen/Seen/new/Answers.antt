use Rattle.std.proofs.Common.{rules, []}
use Rattle.shared.proofs.SeenKeeps.{opens}
use Rattle.shared.proofs.seen.Seen.new.Goals as goal

pub of_words-requires : goal.of_words-requires
of_words-requires g c = opens {T = Unit {0}} _ [] c.requires (search rules)
