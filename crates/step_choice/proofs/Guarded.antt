-- Branches behind guards, and calls of altsteps, as they are found.
use Rattle.std.proofs.Common.{◌≡◌, ℕ, zero, suc, Bool, true, false, List, [], ◌∷◌, Option, Some, None, Result, Ok, Err, refl, sym, ap, subst}
use Rattle.std.proofs.lemmas.List.Elements.{All-nil}
use Rattle.ttcn_syntax.specs.declared.place.Span.{Span}
use Rattle.ttcn_syntax.specs.declared.tree.definition.Altstep.{Altstep}
use Rattle.ttcn_syntax.specs.declared.tree.definition.DefinitionKind.{DefinitionKind}
use Rattle.ttcn_syntax.specs.declared.tree.definition.DefinitionKind.TheVariants as kind
use Rattle.ttcn_syntax.specs.declared.tree.statement.Event.{Event}
use Rattle.semantics.specs.Branches.{Chance, Judge, Written, behind_guard, branches_of, open_branch, written_with}
use Rattle.semantics.specs.Events as events
use Rattle.semantics.specs.Events.{chosen_by, try_event}
use Rattle.semantics.specs.Items.{Item}
use Rattle.step_choice.specs.Choices.{Finds}
use Rattle.step_snapshot.specs.Tests.{extent_of}
use Rattle.config_parts.specs.Views.{IsFrameWithin}
use Rattle.step_choice.specs.declared.taken.Deed.{Deed}
use Rattle.step_choice.specs.declared.taken.Deed.TheVariants as code
use Rattle.step_choice.specs.declared.taken.Taken.{Taken}
use Rattle.step_choice.specs.internal.Judged.{Is, Tries, altstep_of, below, first_of, test_of}
use Rattle.step_snapshot.specs.Seen.{own_by, seen_by}
use Rattle.step_snapshot.specs.declared.snapshot.Snapshot.{Snapshot}
use Rattle.value_types.specs.Outcomes.{Fails, Gives, Outcome, Yields}
use Rattle.value_types.specs.declared.fault.Fault.{Fault}
use Rattle.value_types.specs.declared.fault.Fault.TheVariants.{Dynamic, Memory}
use Rattle.value_types.specs.declared.value.Value.{Value}

-- ---- guards

pub guard-true : (s : Snapshot) (P : ℕ → List Item → Type 0) (guard : Outcome Bool) (written : List Written) (result : Result (Option Taken) Fault)
    → Gives guard (Ok true) → Finds s P (first_of s written) result → Finds s P (first_of s (behind_guard guard written)) result
guard-true s P guard written result given found =
    let Q : Outcome Bool → Type 0 = λ g. Finds s P (first_of s (behind_guard g written)) result in subst Q (sym given) found

pub guard-false : (s : Snapshot) (guard : Outcome Bool) (written : List Written) → Gives guard (Ok false) → first_of s (behind_guard guard written) ≡ events.Nothing
guard-false s guard written given = ap (λ g. first_of s (behind_guard g written)) given

pub guard-fault : (s : Snapshot) (P : ℕ → List Item → Type 0) (guard : Outcome Bool) (written : List Written) (fault : Fault)
    → Gives guard (Err fault) → Finds s P (first_of s (behind_guard guard written)) (Err fault)
guard-fault s P (Yields b) written Dynamic given = absurd (let e = given in cc)
guard-fault s P (Fails why) written Dynamic given = (why, refl)
guard-fault s P guard written Memory given = tt

-- ---- one branch

-- a branch that is taken, without the frames of altsteps
abbrev pub alone : Span → ℕ → Deed → Taken
alone place way deed = record { place = place; way = way; frames = []; deed = deed }

pub open-taken : (s : Snapshot) (judge : Judge) (place : Span) (way : ℕ) (e : Event) (block : List Item) (deed : Deed)
    → Tries s judge.site (try_event (test_of s) (seen_by s) (own_by s) judge e) (Ok (Some deed))
    → Finds s (Is way block) (first_of s (open_branch (test_of s) judge place (Some e) block ∷ [])) (Ok (Some (alone place way deed)))
open-taken s judge place way e block deed (effect, (is, same)) =
    let chance : Chance = record { place = place; judge = judge; event = Some e; way = record { block = block; frames = [] } } in (
      chance,
      (
        effect,
        (
          ap (λ t. chosen_by chance t events.Nothing) is,
          record { place = refl; way = (refl, refl); frames = refl; within = All-nil (IsFrameWithin (extent_of s.test.now)); deed = same },
        ),
      ),
    )

-- an `else` is taken
pub else-taken : (s : Snapshot) (judge : Judge) (place : Span) (way : ℕ) (block : List Item)
    → Finds s (Is way block) (first_of s (open_branch (test_of s) judge place None block ∷ [])) (Ok (Some (alone place way code.Nothing)))
else-taken s judge place way block = (
  record { place = place; judge = judge; event = None; way = record { block = block; frames = [] } },
  (
    events.Plain,
    (
      refl,
      record { place = refl; way = (refl, refl); frames = refl; within = All-nil (IsFrameWithin (extent_of s.test.now)); deed = refl },
    ),
  ),
)

-- ---- calls

pub call-fault : (s : Snapshot) (P : ℕ → List Item → Type 0) (levels at : ℕ) (block : List Item) (given : Outcome (List Value)) (fault : Fault)
    → Gives given (Err fault) → Finds s P (first_of s (written_with (below levels s) (test_of s) (seen_by s) (own_by s) at block given)) (Err fault)
call-fault s P levels at block (Yields values) Dynamic is = absurd (let e = is in cc)
call-fault s P levels at block (Fails why) Dynamic is = (why, refl)
call-fault s P levels at block given Memory is = tt

pub call-given : (s : Snapshot) (P : ℕ → List Item → Type 0) (levels at : ℕ) (block : List Item) (given : Outcome (List Value)) (values : List Value) (result : Result (Option Taken) Fault)
    → Gives given (Ok values) → Finds s P (first_of s (written_with (below levels s) (test_of s) (seen_by s) (own_by s) at block (Yields values))) result
    → Finds s P (first_of s (written_with (below levels s) (test_of s) (seen_by s) (own_by s) at block given)) result
call-given s P levels at block given values result is found =
    let Q : Outcome (List Value) → Type 0 = λ g. Finds s P (first_of s (written_with (below levels s) (test_of s) (seen_by s) (own_by s) at block g)) result in subst Q (sym is) found

-- ---- altsteps

pub no-branches : (k : Option DefinitionKind) → altstep_of k ≡ None → branches_of k ≡ []
no-branches None is = refl
no-branches (Some (kind.Record d)) is = refl
no-branches (Some (kind.Enumerated d)) is = refl
no-branches (Some (kind.Port d)) is = refl
no-branches (Some (kind.Component d)) is = refl
no-branches (Some (kind.Constants d)) is = refl
no-branches (Some (kind.Template d)) is = refl
no-branches (Some (kind.Function d)) is = refl
no-branches (Some (kind.Altstep a)) is = absurd (let e = is in cc)
no-branches (Some (kind.Testcase d)) is = refl

pub is-altstep : (k : Option DefinitionKind) (a : Altstep) → altstep_of k ≡ Some a → k ≡ Some (kind.Altstep a)
is-altstep None a is = absurd (let e = is in cc)
is-altstep (Some (kind.Record d)) a is = absurd (let e = is in cc)
is-altstep (Some (kind.Enumerated d)) a is = absurd (let e = is in cc)
is-altstep (Some (kind.Port d)) a is = absurd (let e = is in cc)
is-altstep (Some (kind.Component d)) a is = absurd (let e = is in cc)
is-altstep (Some (kind.Constants d)) a is = absurd (let e = is in cc)
is-altstep (Some (kind.Template d)) a is = absurd (let e = is in cc)
is-altstep (Some (kind.Function d)) a is = absurd (let e = is in cc)
is-altstep (Some (kind.Altstep b)) a is = let same : b ≡ a = cc in ap (λ x. Some (kind.Altstep x)) same
is-altstep (Some (kind.Testcase d)) a is = absurd (let e = is in cc)
