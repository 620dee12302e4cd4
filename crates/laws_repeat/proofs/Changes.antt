-- What lasts of the lists of each component stays with what is done among the components.
use Rattle.std.proofs.Common.{◌≡◌, ℕ, List, [], ◌∷◌, ◌++◌, Some, None, IfSome, inr, Ok, refl, sym, subst}
use Rattle.std.specs.List.{All}
use Rattle.std.proofs.lemmas.List.Elements.{All-cons, All-nil}
use Rattle.ttcn_syntax.specs.declared.tree.definition.Definition.{Definition}
use Rattle.laws_repeat.proofs.Asked.{asked_followed}
use Rattle.laws_repeat.specs.Following.{IsFollowed, IsNewFrame, lists_of}
use Rattle.laws_repeat.specs.internal.Lasting.{IsLasting}
use Rattle.laws_steps.proofs.Applying.{Anyhow, AppliesEach, IfGoes, OwnHas, applied, applies-each, touch-each}
use Rattle.laws_steps.proofs.Expiring.{data-expires, remains-expired}
use Rattle.laws_steps.proofs.Found.{found-each, some-of}
use Rattle.laws_steps.proofs.Running.{Steps, end-holds, next-leads, replay-holds, start-leads}
use Rattle.semantics.specs.Configurations.{Component, Configuration, Data, Frame, Going, component_at, path_of, same_path}
use Rattle.semantics.specs.Items.{Item}
use Rattle.semantics.specs.Runs.{body_frame, graph_of, mtc_with, replay, start}
use Rattle.semantics.specs.Snapshots.{Test, snapshot_of}
use Rattle.semantics.specs.Statements.{Act, Errs, Requests, Waits, act}
use Rattle.semantics.specs.Steps.{Label, at_queue, exchanged, expired, next}
use Rattle.semantics.specs.Storing.{in_last, with_remaining}
use Rattle.semantics.specs.Taking.{without_marks}
use Rattle.summary.specs.Run.{Run, end_of}
use Rattle.value_types.specs.declared.path.Path.{Path}
use Rattle.value_types.specs.declared.value.ComponentId.{ComponentId}

module _ (test : Test) (Lasts : List (List Item) → Type 0) (lasting : IsLasting test.definitions Lasts) where
  abbrev ds : List Definition
  ds = test.definitions

  -- of a component
  abbrev pub Stands : Component → Type 0
  Stands component = Lasts (lists_of component.own.calls)

  abbrev pub AllStand : Going → Type 0
  AllStand c = All Stands c.components

  -- of a configuration; where the test case ended nothing is said
  abbrev pub IsStanding : Configuration → Type 0
  IsStanding = IfGoes AllStand

  abbrev LastsIn : Data → Type 0
  LastsIn own = Lasts (lists_of own.calls)

  -- ---- changes of a component

  uncovered-lasts : (calls : List Frame) → Lasts (lists_of calls) → Lasts (lists_of (in_last (λ frame. with_remaining (without_marks frame.remaining) frame) calls))
  uncovered-lasts [] is = is
  uncovered-lasts (frame ∷ frames) is = lasting.uncovered frame.remaining (lists_of frames) is

  begin-lasts : (frame : Frame) → IsNewFrame ds frame → Lasts (frame.remaining ∷ [])
  begin-lasts frame new = subst (λ xs. Lasts (xs ∷ [])) (sym new.3) (lasting.begun new.0 new.1 new.2)

  -- ---- new components

  no-frames : (new : Component) → new.own.calls ≡ [] → Stands new
  no-frames new is = subst (λ calls. Lasts (lists_of calls)) (sym is) lasting.none

  -- ---- what a component asks for

  module _ (before : List (List Item)) (lasts : Lasts before) where
    owns : (asked : Act) → IsFollowed ds before asked → OwnHas LastsIn asked
    owns Waits is = tt
    owns (Errs why) is = tt
    owns (Requests request own) is = lasting.followed before (lists_of own.calls) is.1 lasts

    each : (itself : ComponentId) → AppliesEach (IsFollowed ds before) LastsIn Stands itself
    each itself = record {
      owns = owns;
      settles = λ own has x is. uncovered-lasts own.calls has;
      worsens = λ v x is. is;
      removes = λ port x is. is;
      delivers = λ port to v own at asks x is. is;
      creates = λ new own asks. no-frames new asks.0.0;
      starts = λ path frame own asks x is. begin-lasts frame asks.0;
      stops = λ x is. is;
    }

  -- ---- timers

  expired-lasts : (number : ℕ) (name : List ℕ) (own : Data) → LastsIn own → IfSome (expired number name own) LastsIn
  expired-lasts number name own is =
      data-expires LastsIn number name own (λ members changed. is) (λ calls changed. subst Lasts (sym (remains-expired number name own.calls calls changed)) is)

  -- ---- steps

  component-stands : (c : Going) (p : Path) (x : Component) → AllStand c → component_at c p ≡ Some x → Stands x
  component-stands c p x all found = some-of Stands (component_at c p) x found (found-each Stands (λ component. same_path (path_of component) p) c.components all)

  steps-stand : (c : Going) → AllStand c → Steps test Anyhow AllStand c
  steps-stand c all = record {
    asked = λ p x found runs.
        applied test Anyhow (IsFollowed ds (lists_of x.own.calls)) AllStand c x.itself
        (applies-each (IsFollowed ds (lists_of x.own.calls)) LastsIn Stands c x.itself all (each (lists_of x.own.calls) (component-stands c p x all found) x.itself))
        (act test (snapshot_of c x) x.own) (asked_followed test (snapshot_of c x) x.own);
    expires = λ p x number name own found runs changed.
        touch-each Stands c (path_of x) (exchanged own) (λ y is. some-of LastsIn (expired number name x.own) own changed (expired-lasts number name x.own (component-stands c p x all found))) all;
    comes = λ system_port e v mapped found. touch-each Stands c e.component (at_queue e.port (λ messages. messages ++ record { value = v; sender = None } ∷ [])) (λ y is. is) all;
  }

  pub next-stands : (c : Configuration) (label : Label) → IsStanding c → IfSome (next test c label) IsStanding
  next-stands c label is = next-leads test Anyhow AllStand steps-stand c label is

  -- ---- runs

  pub start-stands-so : IsStanding (start test)
  start-stands-so =
      start-leads test Anyhow AllStand
      (λ body members is made. All-cons Stands (mtc_with test body members) [] (begin-lasts (body_frame test body) (test.testcase, body, inr is, refl)) (All-nil Stands))

  pub replay-stands : (run : List Label) (c : Configuration) → replay test run ≡ Ok c → IsStanding c
  replay-stands run c e = replay-holds test IsStanding start-stands-so next-stands run c e

  pub end-stands : (run : Run Label) → IsStanding (end_of (graph_of test) run)
  end-stands run = end-holds test IsStanding start-stands-so next-stands run
