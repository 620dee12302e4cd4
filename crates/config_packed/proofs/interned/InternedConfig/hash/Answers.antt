use Rattle.std.proofs.Common.{ap, ◌∙◌}
use Rattle.search_memory.specs.Hashes.{hash_of}
use Rattle.config_packed.specs.Shares.{hash_code, mixed}
use Rattle.config_packed.proofs.interned.InternedConfig.hash.Goals as goal

pub returns : goal.returns
returns c =
    let first = c.mixed.ensures ∙ (λ i. mixed ((c.hash.ensures ∙ ap hash_of c.self.invariant.head) i) ((c.hash-2.ensures ∙ ap hash_of c.self.invariant.front) i)) in
    c.mixed-2.ensures ∙ (λ i. mixed (first i) ((c.hash-3.ensures ∙ ap hash_of c.self.invariant.back) i)) ∙ ap hash_code c.self.view_is
