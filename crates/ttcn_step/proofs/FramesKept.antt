-- All components have no more frames than the limit behind each step.
use Rattle.std.proofs.Common.{lit<, ◌≡◌, ℕ, ◌<◌, List, [], ◌∷◌, ◌++◌, ◌∙◌, map, length, Option, Some, None, IfSome, option_map, sym, ap, subst}
use Rattle.std.specs.List.{All}
use Rattle.std.proofs.lemmas.List.Elements.{All-cons, All-nil}
use Rattle.laws_steps.proofs.Applying.{Anyhow, AppliesEach, IfGoes, Leads, OwnHas, applied, applies-each, touch-each}
use Rattle.laws_steps.proofs.Expiring.{data-expires, remains-expired}
use Rattle.laws_steps.proofs.Found.{found-each, some-of}
use Rattle.laws_steps.proofs.Running.{Steps, next-leads, settled-leads, start-leads}
use Rattle.std.proofs.lemmas.List.{length-map}
use Rattle.semantics.specs.Configurations.{Component, Configuration, Data, Ended, Frame, Goes, Going, component_at, path_of, same_path}
use Rattle.semantics.specs.Runs.{mtc_with, start}
use Rattle.semantics.specs.Snapshots.{Snapshot, Test, snapshot_of}
use Rattle.semantics.specs.Statements.{Act, Errs, Requests, Waits, act, most}
use Rattle.semantics.specs.Steps.{Label, apply, at_queue, exchanged, expired, next, settled}
use Rattle.ttcn_step.proofs.FrameLimits.{AsksWithinLimit, asked-kept, uncovered-kept}
use Rattle.ttcn_step.specs.FrameLimit.{AllKeepFrameLimit, KeepsFrameLimit}
use Rattle.value_types.specs.declared.path.Path.{Path}
use Rattle.value_types.specs.declared.value.ComponentId.{ComponentId}

abbrev IsKept : Component → Type 0
IsKept component = KeepsFrameLimit component.own

abbrev AreKept : Going → Type 0
AreKept c = All IsKept c.components

-- ---- what a component asks for

owns : (asked : Act) → AsksWithinLimit asked → OwnHas KeepsFrameLimit asked
owns Waits is = tt
owns (Errs why) is = tt
owns (Requests request own) is = is.1

one-kept : 1 < most
one-kept = lit< tt

each : (itself : ComponentId) → AppliesEach AsksWithinLimit KeepsFrameLimit IsKept itself
each itself = record {
  owns = owns;
  settles = λ own has x is. uncovered-kept own has;
  worsens = λ v x is. is;
  removes = λ port x is. is;
  delivers = λ port to v own at asks x is. is;
  creates = λ new own asks. asks.0;
  starts = λ path frame own asks x is. one-kept;
  stops = λ x is. is;
}

-- ---- timers

expired-kept : (number : ℕ) (name : List ℕ) (own : Data) → KeepsFrameLimit own → IfSome (expired number name own) KeepsFrameLimit
expired-kept number name own is =
    data-expires KeepsFrameLimit number name own (λ members changed. is)
    (λ calls changed. subst (λ n. n < most) (sym (as-many own.calls calls (remains-expired number name own.calls calls changed))) is)
  where
    as-many : (calls new : List Frame) → map (λ frame. frame.remaining) new ≡ map (λ frame. frame.remaining) calls → length new ≡ length calls
    as-many calls new same = sym (length-map new (λ (frame : Frame). frame.remaining)) ∙ ap length same ∙ length-map calls (λ (frame : Frame). frame.remaining)

-- ---- steps

kept-at : (c : Going) (p : Path) (x : Component) → AreKept c → component_at c p ≡ Some x → IsKept x
kept-at c p x all found = some-of IsKept (component_at c p) x found (found-each IsKept (λ component. same_path (path_of component) p) c.components all)

-- what a component asks for by whatever snapshot, as its data are in one configuration, is done in another
asked-leads : (test : Test) (c old : Going) (itself : ComponentId) (p : Path) (x : Component) (snapshot : Snapshot) → AreKept c → AreKept old → component_at old p ≡ Some x
    → Leads Anyhow (IfGoes AreKept) (apply test c itself (act test snapshot x.own))
asked-leads test c old itself p x snapshot is also there =
    applied test Anyhow AsksWithinLimit AreKept c itself (applies-each AsksWithinLimit KeepsFrameLimit IsKept c itself is (each itself)) (act test snapshot x.own) (asked-kept test snapshot x.own (kept-at old p x also there))

steps-kept : (test : Test) (c : Going) → AreKept c → Steps test Anyhow AreKept c
steps-kept test c is = record {
  asked = λ p x found runs. asked-leads test c c x.itself p x (snapshot_of c x) is is found;
  expires = λ p x number name own found runs changed.
      touch-each IsKept c (path_of x) (exchanged own) (λ y kept. some-of KeepsFrameLimit (expired number name x.own) own changed (expired-kept number name x.own (kept-at c p x is found))) is;
  comes = λ system_port e v mapped found.
      touch-each IsKept c e.component (at_queue e.port (λ messages. messages ++ record { value = v; sender = None } ∷ [])) (λ y kept. kept) is;
}

-- in the words of the law
told : (c : Configuration) → AllKeepFrameLimit c → IfGoes AreKept c
told (Ended v) is = tt
told (Goes c) is = is

said : (c : Configuration) → IfGoes AreKept c → AllKeepFrameLimit c
said (Ended v) is = tt
said (Goes c) is = is

if-said : (o : Option Configuration) → IfSome o (IfGoes AreKept) → IfSome o AllKeepFrameLimit
if-said None is = tt
if-said (Some c) is = said c is

-- each step leaves the limit
pub next-kept : (test : Test) (c : Configuration) (label : Label) → AllKeepFrameLimit c → IfSome (next test c label) AllKeepFrameLimit
next-kept test c label is = if-said (next test c label) (next-leads test Anyhow AreKept (steps-kept test) c label (told c is))

pub applied-kept : (test : Test) (c old : Going) (itself : ComponentId) (p : Path) (x : Component) (snapshot : Snapshot) → AllKeepFrameLimit (Goes c) → AllKeepFrameLimit (Goes old) → component_at old p ≡ Some x
    → IfSome (option_map settled (apply test c itself (act test snapshot x.own))) AllKeepFrameLimit
applied-kept test c old itself p x snapshot is also there =
    if-said (option_map settled (apply test c itself (act test snapshot x.own)))
    (settled-leads test Anyhow AreKept (apply test c itself (act test snapshot x.own)) (asked-leads test c old itself p x snapshot is also there))

-- ---- the start

-- runs start within the limit
pub start-within : (test : Test) → AllKeepFrameLimit (start test)
start-within test =
    said (start test) (start-leads test Anyhow AreKept (λ body members is made. All-cons IsKept (mtc_with test body members) [] one-kept (All-nil IsKept)))

-- ---- in the words of the law

pub limit_at_start : (test : Test) → AllKeepFrameLimit (start test)
limit_at_start test = start-within test

pub limit_behind : (test : Test) (c d : Configuration) (label : Label) → AllKeepFrameLimit c → next test c label ≡ Some d → AllKeepFrameLimit d
limit_behind test c d label is e = subst (λ o. IfSome o AllKeepFrameLimit) e (next-kept test c label is)
