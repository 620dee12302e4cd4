-- The first choice among branches that are written out, part by part.
use Rattle.std.proofs.Common.{◌≡◌, ℕ, List, [], ◌∷◌, ◌++◌, map, refl, ap, ◌∙◌}
use Rattle.semantics.specs.Branches.{Chance, Fault, Open, Written, through}
use Rattle.semantics.specs.Configurations.{Data}
use Rattle.semantics.specs.Events.{Choice, Faulty, Happened, Passed, Trial, chosen_by, first_choice, try_chance}
use Rattle.semantics.specs.Items.{Item}
use Rattle.semantics.specs.Snapshots.{Snapshot, Test}
use Rattle.step_choice.specs.internal.Later.{chance_through, choice_through, or_later}
use Rattle.value_types.specs.declared.value.Value.{Value}

-- ---- one part behind the other

chosen-append : (chance : Chance) (trial : Trial) (one other : Choice) → chosen_by chance trial (or_later one other) ≡ or_later (chosen_by chance trial one) other
chosen-append chance Passed one other = refl
chosen-append chance (Faulty why) one other = refl
chosen-append chance (Happened effect) one other = refl

pub first-append : (test : Test) (snapshot : Snapshot) (own : Data) (one other : List Written)
    → first_choice test snapshot own (one ++ other) ≡ or_later (first_choice test snapshot own one) (first_choice test snapshot own other)
first-append test snapshot own [] other = refl
first-append test snapshot own (Fault why ∷ one) other = refl
first-append test snapshot own (Open chance ∷ one) other =
    ap (chosen_by chance (try_chance test snapshot own chance.judge chance.event)) (first-append test snapshot own one other)
    ∙ chosen-append chance (try_chance test snapshot own chance.judge chance.event) (first_choice test snapshot own one) (first_choice test snapshot own other)

-- ---- from a call

chosen-through : (test : Test) (at : ℕ) (values : List Value) (before : List Item) (chance : Chance) (trial : Trial) (later : Choice)
    → chosen_by (chance_through test at values before chance) trial (choice_through test at values before later) ≡ choice_through test at values before (chosen_by chance trial later)
chosen-through test at values before chance Passed later = refl
chosen-through test at values before chance (Faulty why) later = refl
chosen-through test at values before chance (Happened effect) later = refl

pub first-through : (test : Test) (snapshot : Snapshot) (own : Data) (at : ℕ) (values : List Value) (before : List Item) (written : List Written)
    → first_choice test snapshot own (map (through test at values before) written) ≡ choice_through test at values before (first_choice test snapshot own written)
first-through test snapshot own at values before [] = refl
first-through test snapshot own at values before (Fault why ∷ written) = refl
first-through test snapshot own at values before (Open chance ∷ written) =
    ap (chosen_by (chance_through test at values before chance) (try_chance test snapshot own chance.judge chance.event)) (first-through test snapshot own at values before written)
    ∙ chosen-through test at values before chance (try_chance test snapshot own chance.judge chance.event) (first_choice test snapshot own written)
