-- The branches of defaults, one default after the other.
use Rattle.std.proofs.Common.{◌≡◌, ℕ, ◌+◌, ◌<◌, List, [], ◌∷◌, map, length, drop, get_or, sym, ap, ◌∙◌}
use Rattle.std.proofs.lemmas.List.{at_drop_more}
use Rattle.std.specs.List.{flat_map}
use Rattle.semantics.specs.Branches.{Written, written_with}
use Rattle.semantics.specs.Configurations as rules
use Rattle.semantics.specs.Events.{Choice}
use Rattle.step_choice.proofs.Firsts.{first-append}
use Rattle.step_choice.specs.internal.Judged.{below, first_of, test_of}
use Rattle.step_choice.specs.internal.Later.{or_later}
use Rattle.step_snapshot.specs.Seen.{own_by, seen_by}
use Rattle.step_snapshot.specs.declared.snapshot.Snapshot.{Snapshot}
use Rattle.config_parts.specs.Legend.{default_by}
use Rattle.config_parts.specs.declared.frame.ActiveDefault.{ActiveDefault}
use Rattle.value_types.specs.Outcomes.{Yields}
use Rattle.value_types.specs.declared.value.Value.{Value}

-- the choice among the branches of the altstep at a position, as those of a default
abbrev pub first_of_default : Snapshot → ℕ → ℕ → List Value → Choice
first_of_default s levels at values = first_of s (written_with (below levels s) (test_of s) (seen_by s) (own_by s) at [] (Yields values))

-- the choice among those of defaults
abbrev pub first_of_defaults : Snapshot → ℕ → List ActiveDefault → Choice
first_of_defaults s levels defaults =
    first_of s (flat_map (λ (d : rules.ActiveDefault). written_with (below levels s) (test_of s) (seen_by s) (own_by s) d.altstep [] (Yields d.arguments)) (map default_by defaults))

first-of-cons : (s : Snapshot) (levels : ℕ) (d : ActiveDefault) (defaults : List ActiveDefault)
    → first_of_defaults s levels (d ∷ defaults) ≡ or_later (first_of_default s levels d.altstep d.arguments) (first_of_defaults s levels defaults)
first-of-cons s levels d defaults =
    let write : rules.ActiveDefault → List Written = λ d. written_with (below levels s) (test_of s) (seen_by s) (own_by s) d.altstep [] (Yields d.arguments) in
    first-append (test_of s) (seen_by s) (own_by s) (write (default_by d)) (flat_map write (map default_by defaults))

-- a default, and those behind it
pub default-next : (s : Snapshot) (levels : ℕ) (defaults : List ActiveDefault) (k : ℕ) (d : ActiveDefault) → k < length defaults → d ≡ get_or defaults k d
    → first_of_defaults s levels (drop k defaults) ≡ or_later (first_of_default s levels d.altstep d.arguments) (first_of_defaults s levels (drop (k + 1) defaults))
default-next s levels defaults k d within is =
    at_drop_more (first_of_defaults s levels) defaults k d within
    ∙ ap (λ (x : ActiveDefault). first_of_defaults s levels (x ∷ drop (k + 1) defaults)) (sym is)
    ∙ first-of-cons s levels d (drop (k + 1) defaults)

-- the same arguments, and as many levels
pub default-is : (s : Snapshot) (levels most at : ℕ) (values given : List Value) → levels ≡ most → values ≡ given → first_of_default s most at given ≡ first_of_default s levels at values
default-is s levels most at values given as_many same = sym (ap (λ n. first_of_default s n at values) as_many ∙ ap (first_of_default s most at) same)
