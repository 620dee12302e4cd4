-- Where fine labels lead, by what is stored in the code.
use Rattle.std.proofs.Common.{Bor, ◌≡◌, ℕ, Bool, true, false, ◌&&◌, not, List, [], ◌∷◌, map, Option, Some, None, IfSome, bytes_eq, is_some, option_map, refl, sym, ap, subst, ◌∙◌, if◌then◌else◌}
use Rattle.std.specs.List.{All, filter, find}
use Rattle.std.specs.Option.{option_and_then}
use Rattle.std.proofs.lemmas.List.Elements.{All-cons, All-filter}
use Rattle.laws_fine.specs.Fates.{Lapses, fate_of}
use Rattle.laws_fine.specs.Fine.{Choose, Plain, Snap, is_of_alt, stands_at_alt}
use Rattle.laws_fine.specs.Holding.{Held, Holding, act_then, follow, held_at, hold_behind, hold_choose, hold_chosen, hold_fate, hold_next, hold_snap, noted, still_held, without_held}
use Rattle.laws_steps.proofs.Found.{found-each}
use Rattle.semantics.specs.Configurations as rules
use Rattle.semantics.specs.Configurations.{component_at}
use Rattle.semantics.specs.Runs.{option_elim}
use Rattle.semantics.specs.Steps.{Label, apply, next, settled}
use Rattle.config_parts.specs.Legend.{component_by, going_by}
use Rattle.config_parts.specs.declared.component.Component.{Component}
use Rattle.config_parts.specs.declared.config.Config.{Config}
use Rattle.config_parts.specs.declared.config.Config.TheVariants as config
use Rattle.config_parts.specs.declared.config.Going.{Going}
use Rattle.ttcn_step.proofs.FineSteps.{held-found, still-fits, still-said, without-said}
use Rattle.ttcn_step.proofs.Found.{Searched, said-found}
use Rattle.ttcn_step.specs.Machines.{Fits, Machine, legend, said}
use Rattle.ttcn_step.specs.declared.fine.Stored.{Stored}
use Rattle.ttcn_step.specs.internal.Fine.{IsWell, held_by, holding_of, still}
use Rattle.value_types.specs.Outcomes.{Outcome}
use Rattle.value_types.specs.declared.path.Path.{Path}

-- the entry of a path
abbrev pub Entry : List Stored → List ℕ → Option Stored
Entry stored numbers = find (λ entry. bytes_eq entry.path.numbers numbers) stored

some-held : (machine : Machine) (stored : List Stored) (p : Path) → is_some (held_at (map (held_by (legend machine)) stored) p) ≡ is_some (Entry stored p.numbers)
some-held machine stored p = ap is_some (held-found (legend machine) p stored) ∙ told (Entry stored p.numbers)
  where
    told : (o : Option Stored) → is_some (option_map (held_by (legend machine)) o) ≡ is_some o
    told None = refl
    told (Some entry) = refl

module _ (machine : Machine) (going : Going) (stored : List Stored) (p : Path) where
  abbrev Now : Holding
  Now = holding_of machine (config.Going going) stored

  abbrev C : rules.Going
  C = going_by (legend machine) going

  abbrev Kept : List Held
  Kept = map (held_by (legend machine)) stored

  -- ---- snapshots

  abbrev Snapped : Component → Option Holding
  Snapped x = hold_snap machine.test C Kept p (component_by (legend machine) x)

  there : (o : Option Component) → Searched p.numbers going.components ≡ o → component_at C p ≡ option_map (component_by (legend machine)) o
  there o found = said-found (legend machine) machine.test going p o found

  pub snap-missing : Searched p.numbers going.components ≡ None → hold_next machine.test Now (Snap p) ≡ None
  snap-missing found = ap (option_and_then (hold_snap machine.test C Kept p)) (there None found)

  pub snap-elsewhere : (x : Component) → Searched p.numbers going.components ≡ Some x → stands_at_alt machine.test (component_by (legend machine) x) ≡ false → hold_next machine.test Now (Snap p) ≡ None
  snap-elsewhere x found stands =
      ap (option_and_then (hold_snap machine.test C Kept p)) (there (Some x) found)
      ∙ ap (λ b. if b && not (is_some (held_at Kept p)) then Some (record { now = rules.Goes C; held = record { path = p; taken = C; since = [] } ∷ Kept }) else None) stands

  pub snap-again : (x : Component) → Searched p.numbers going.components ≡ Some x → is_some (Entry stored p.numbers) ≡ true → hold_next machine.test Now (Snap p) ≡ None
  snap-again x found has =
      ap (option_and_then (hold_snap machine.test C Kept p)) (there (Some x) found)
      ∙ ap (λ b. if stands_at_alt machine.test (component_by (legend machine) x) && not b then Some (record { now = rules.Goes C; held = record { path = p; taken = C; since = [] } ∷ Kept }) else None) (some-held machine stored p ∙ has)
      ∙ never (stands_at_alt machine.test (component_by (legend machine) x))
    where
      never : (b : Bool) → ◌≡◌ {A = Option Holding} (if b && false then Some (record { now = rules.Goes C; held = record { path = p; taken = C; since = [] } ∷ Kept }) else None) None
      never true = refl
      never false = refl

  pub snap-leads : (x : Component) → Searched p.numbers going.components ≡ Some x → stands_at_alt machine.test (component_by (legend machine) x) ≡ true → is_some (Entry stored p.numbers) ≡ false
      → hold_next machine.test Now (Snap p) ≡ Some (record { now = rules.Goes C; held = record { path = p; taken = C; since = [] } ∷ Kept })
  snap-leads x found stands has =
      ap (option_and_then (hold_snap machine.test C Kept p)) (there (Some x) found)
      ∙ ap (λ b. if b && not (is_some (held_at Kept p)) then Some (record { now = rules.Goes C; held = record { path = p; taken = C; since = [] } ∷ Kept }) else None) stands
      ∙ ap (λ b. if not b then Some (record { now = rules.Goes C; held = record { path = p; taken = C; since = [] } ∷ Kept }) else None) (some-held machine stored p ∙ has)

  -- ---- choices

  pub choose-missing : Searched p.numbers going.components ≡ None → hold_next machine.test Now (Choose p) ≡ None
  choose-missing found = ap (option_and_then (λ x. hold_choose machine.test C Kept p x (held_at Kept p))) (there None found)

  pub choose-unstored : (x : Component) → Searched p.numbers going.components ≡ Some x → Entry stored p.numbers ≡ None → hold_next machine.test Now (Choose p) ≡ None
  choose-unstored x found none =
      ap (option_and_then (λ x. hold_choose machine.test C Kept p x (held_at Kept p))) (there (Some x) found)
      ∙ ap (hold_choose machine.test C Kept p (component_by (legend machine) x)) (held-found (legend machine) p stored ∙ ap (option_map (held_by (legend machine))) none)

  choose-is : (x : Component) (entry : Stored) → Searched p.numbers going.components ≡ Some x → Entry stored p.numbers ≡ Some entry
      → hold_next machine.test Now (Choose p) ≡ Some (hold_chosen machine.test C (without_held p Kept) (held_by (legend machine) entry).since (apply machine.test C x.itself (act_then machine.test (held_by (legend machine) entry))))
  choose-is x entry found has =
      ap (option_and_then (λ x. hold_choose machine.test C Kept p x (held_at Kept p))) (there (Some x) found)
      ∙ ap (hold_choose machine.test C Kept p (component_by (legend machine) x)) (held-found (legend machine) p stored ∙ ap (option_map (held_by (legend machine))) has)

  -- what comes of a choice
  chosen-told : (since : List Label) (out : Option (Outcome rules.Configuration)) (after : Option Config) (others : List Stored) → map (held_by (legend machine)) others ≡ without_held p Kept
      → option_map (said machine) after ≡ option_map (follow machine.test since) (option_map settled out) → hold_chosen machine.test C (without_held p Kept) since out
      ≡ option_elim (holding_of machine (config.Going going) others) (λ d. holding_of machine d (still d others)) after
  chosen-told since None None others same is = ap (λ hs. record { now = rules.Goes C; held = hs }) (sym same)
  chosen-told since None (Some after) others same is = absurd (let no = is in cc)
  chosen-told since (Some out) None others same is = absurd (let no = is in cc)
  chosen-told since (Some out) (Some after) others same is =
      let ends : said machine after ≡ follow machine.test since (settled out) = let found = is in cc in
      ap (λ d. hold_behind d (without_held p Kept)) (sym ends)
      ∙ ap (λ hs. record { now = said machine after; held = still_held (said machine after) hs }) (sym same)
      ∙ ap (λ hs. record { now = said machine after; held = hs }) (sym (still-said (legend machine) after others))

  pub choose-leads : (x : Component) (entry : Stored) (after : Option Config) (others : List Stored) → Searched p.numbers going.components ≡ Some x → Entry stored p.numbers ≡ Some entry
      → others ≡ filter (λ e. not (bytes_eq e.path.numbers p.numbers)) stored
      → option_map (said machine) after ≡ option_map (follow machine.test (held_by (legend machine) entry).since) (option_map settled (apply machine.test C x.itself (act_then machine.test (held_by (legend machine) entry))))
      → hold_next machine.test Now (Choose p) ≡ Some (option_elim (holding_of machine (config.Going going) others) (λ d. holding_of machine d (still d others)) after)
  choose-leads x entry after others found has parts is =
      choose-is x entry found has
      ∙ ap Some (chosen-told (held_by (legend machine) entry).since (apply machine.test C x.itself (act_then machine.test (held_by (legend machine) entry))) after others
      (ap (map (held_by (legend machine))) parts ∙ without-said (legend machine) p stored) is)

  pub choose-fate : (entry : Stored) → Entry stored p.numbers ≡ Some entry → fate_of (act_then machine.test (held_by (legend machine) entry)) ≡ hold_fate machine.test Kept (Choose p)
  choose-fate entry has = sym (ap (option_elim Lapses (λ h. fate_of (act_then machine.test h))) (held-found (legend machine) p stored ∙ ap (option_map (held_by (legend machine))) has))

-- ---- other steps

module _ (machine : Machine) (going : Going) (stored : List Stored) (label : Label) where
  abbrev Before : Holding
  Before = holding_of machine (config.Going going) stored

  abbrev At : rules.Going
  At = going_by (legend machine) going

  pub plain-none : is_of_alt machine.test At label ≡ false → next machine.test (rules.Goes At) label ≡ None → hold_next machine.test Before (Plain label) ≡ None
  plain-none is none =
      ap (λ b. if b then None else option_map (λ d. hold_behind d (map (noted label) (map (held_by (legend machine)) stored))) (next machine.test (rules.Goes At) label)) is
      ∙ ap (option_map (λ d. hold_behind d (map (noted label) (map (held_by (legend machine)) stored)))) none

  pub plain-leads : (after : Config) (all : List Stored) → is_of_alt machine.test At label ≡ false → next machine.test (rules.Goes At) label ≡ Some (said machine after)
      → map (held_by (legend machine)) all ≡ map (noted label) (map (held_by (legend machine)) stored)
      → hold_next machine.test Before (Plain label) ≡ Some (holding_of machine after (still after all))
  plain-leads after all is leads same =
      ap (λ b. if b then None else option_map (λ d. hold_behind d (map (noted label) (map (held_by (legend machine)) stored))) (next machine.test (rules.Goes At) label)) is
      ∙ ap (option_map (λ d. hold_behind d (map (noted label) (map (held_by (legend machine)) stored)))) leads
      ∙ ap (λ hs. Some (record { now = said machine after; held = still_held (said machine after) hs })) (sym same)
      ∙ ap (λ hs. Some (record { now = said machine after; held = hs })) (sym (still-said (legend machine) after all))

-- ---- what is left behind a step

pub behind-is : (machine : Machine) (after now : Config) (xs ys : List Stored) → now ≡ after → ys ≡ xs → holding_of machine after xs ≡ holding_of machine now ys
behind-is machine after now xs ys one other = ap (λ d. holding_of machine d xs) (sym one) ∙ ap (holding_of machine now) (sym other)

pub well-behind : (machine : Machine) (after now : Config) (xs ys : List Stored) → now ≡ after → ys ≡ still after xs → Fits machine after → All (λ entry. Fits machine (config.Going entry.taken)) xs → IsWell machine now ys
well-behind machine after now xs ys one other fits all = record {
  now = subst (Fits machine) (sym one) fits;
  taken = subst (All (λ entry. Fits machine (config.Going entry.taken))) (sym other) (still-fits machine after xs all);
}

pub well-without : (machine : Machine) (stored others : List Stored) (numbers : List ℕ) → others ≡ filter (λ entry. not (bytes_eq entry.path.numbers numbers)) stored → All (λ entry. Fits machine (config.Going entry.taken)) stored
    → All (λ entry. Fits machine (config.Going entry.taken)) others
well-without machine stored others numbers is all =
    subst (All (λ entry. Fits machine (config.Going entry.taken))) (sym is)
    (All-filter (λ (entry : Stored). not (bytes_eq entry.path.numbers numbers)) (λ entry. Fits machine (config.Going entry.taken)) stored all)

pub entry-fits : (machine : Machine) (numbers : List ℕ) (stored : List Stored) (entry : Stored) → All (λ e. Fits machine (config.Going e.taken)) stored → Entry stored numbers ≡ Some entry → Fits machine (config.Going entry.taken)
entry-fits machine numbers stored entry all found =
    subst (λ o. IfSome o (λ (e : Stored). Fits machine (config.Going e.taken))) found (found-each (λ (e : Stored). Fits machine (config.Going e.taken)) (λ (e : Stored). bytes_eq e.path.numbers numbers) stored all)

-- what the search for an entry answers
pub entry-found : (numbers : List ℕ) (all stored : List Stored) (result found : Option (Bor Stored)) → option_map (λ e. e.now) result ≡ Entry all numbers → all ≡ stored → result ≡ found → Entry stored numbers ≡ option_map (λ e. e.now) found
entry-found numbers all stored result found e same is = ap (λ es. Entry es numbers) (sym same) ∙ sym e ∙ ap (option_map (λ x. x.now)) is

some-made : (o : Option (Bor Stored)) → is_some (option_map (λ e. e.now) o) ≡ is_some o
some-made None = refl
some-made (Some e) = refl

-- whether an entry is there
pub entry-there : (numbers : List ℕ) (all stored : List Stored) (result : Option (Bor Stored)) (b : Bool) → option_map (λ e. e.now) result ≡ Entry all numbers → all ≡ stored → b ≡ is_some result → is_some (Entry stored numbers) ≡ b
entry-there numbers all stored result b e same is = ap (λ es. is_some (Entry es numbers)) (sym same) ∙ ap is_some (sym e) ∙ some-made result ∙ sym is

-- a new entry in front
pub snapped-is : (machine : Machine) (going : Going) (stored items : List Stored) (p : Path) (entry : Stored) → items ≡ entry ∷ stored → entry.path ≡ p → entry.taken ≡ going → entry.since.items ≡ []
    → record { now = rules.Goes (going_by (legend machine) going); held = record { path = p; taken = going_by (legend machine) going; since = [] } ∷ map (held_by (legend machine)) stored } ≡ holding_of machine (config.Going going) items
snapped-is machine going stored items p entry made path taken since =
    ap (λ q. new q (going_by (legend machine) going) []) (sym path)
    ∙ ap (λ g. new entry.path (going_by (legend machine) g) []) (sym taken)
    ∙ ap (λ ls. new entry.path (going_by (legend machine) entry.taken) ls) (sym since)
    ∙ ap (holding_of machine (config.Going going)) (sym made)
  where
    new : Path → rules.Going → List Label → Holding
    new q g ls = record { now = rules.Goes (going_by (legend machine) going); held = record { path = q; taken = g; since = ls } ∷ map (held_by (legend machine)) stored }

pub well-snapped : (machine : Machine) (going : Going) (stored items : List Stored) (entry : Stored) → items ≡ entry ∷ stored → entry.taken ≡ going → Fits machine (config.Going going) → All (λ e. Fits machine (config.Going e.taken)) stored
    → IsWell machine (config.Going going) items
well-snapped machine going stored items entry made taken fits all = record {
  now = fits;
  taken = subst (All (λ e. Fits machine (config.Going e.taken))) (sym made) (All-cons (λ e. Fits machine (config.Going e.taken)) entry stored (subst (λ g. Fits machine (config.Going g)) (sym taken) fits) all);
}
