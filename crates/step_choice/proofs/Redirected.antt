-- What is stored of a message goes where the redirects say.
use Rattle.std.proofs.Common.{◌≡◌, true, List, [], ◌∷◌, ◌++◌, map, Option, Some, None, cond, refl, sym, ap, ◌∙◌}
use Rattle.std.proofs.lemmas.List.{map-append}
use Rattle.ttcn_syntax.specs.declared.tree.expression.Reference.{Reference}
use Rattle.semantics.specs.Events.{Redirect, fits_sender, redirected_sender, redirected_value}
use Rattle.semantics.specs.Items.{Target}
use Rattle.semantics.specs.Sites.{Site, scope_at}
use Rattle.semantics.specs.Snapshots.{Test}
use Rattle.step_choice.specs.Deeds.{stored_by, stored_of}
use Rattle.step_choice.specs.declared.taken.Stored.{Stored}
use Rattle.graph_items.specs.Standing.{target_of}
use Rattle.graph_sites.specs.Facts.{goal_at, goal_by, goal_if_any}
use Rattle.graph_sites.specs.declared.facts.Goal.{Goal}
use Rattle.value_types.specs.Outcomes.{DynamicError, Fails, Yields}
use Rattle.value_types.specs.declared.value.ComponentId.{ComponentId}
use Rattle.value_types.specs.declared.value.Value.{Value}
use Rattle.value_types.specs.declared.value.Value.TheVariants as value

-- what goes to targets at a site, as the rules have it
abbrev pub AreStored : Test → Site → List (Target × Value) → List Redirect → Type 0
AreStored test site stored redirects = stored ≡ map (stored_of test site) redirects

-- ---- the value

pub no-value : (test : Test) (site : Site) (reference : Option Reference) (v : Value) → None ≡ goal_if_any test.definitions site reference
    → AreStored test site [] (redirected_value reference v)
no-value test site None v is = refl
no-value test site (Some reference) v is = absurd (let e = is in cc)

-- ---- the sender

pub one-sender : (test : Test) (site : Site) (reference : Option Reference) (sender : ComponentId) (goal : Goal) → Some (goal_by goal) ≡ goal_if_any test.definitions site reference
    → fits_sender sender goal.wanted ≡ true
    → (stored : List Redirect) × ((redirected_sender (scope_at test.definitions site) reference (Some sender) ≡ Yields stored) × AreStored test site ((target_of goal.target, value.Component sender) ∷ []) stored)
one-sender test site None sender goal is fits = absurd (let e = is in cc)
one-sender test site (Some reference) sender goal is fits =
    let same : goal_by goal ≡ goal_at test.definitions site reference = cc in (
      record { reference = reference; value = value.Component sender } ∷ [],
      (
        ap (λ b. cond b (Yields (record { reference = reference; value = value.Component sender } ∷ [])) (Fails DynamicError)) (ap (λ g. fits_sender sender g.wanted) (sym same) ∙ fits),
        ap (λ g. (g.target, value.Component sender) ∷ []) same,
      ),
    )

-- ---- both

pub both-stored : (test : Test) (site : Site) (xs ys : List Stored) (us vs : List Redirect) → AreStored test site (map stored_by xs) us → AreStored test site (map stored_by ys) vs
    → AreStored test site (map stored_by (xs ++ ys)) (us ++ vs)
both-stored test site xs ys us vs one other =
    map-append stored_by xs ys ∙ ap (λ zs. zs ++ map stored_by ys) one ∙ ap (λ zs. map (stored_of test site) us ++ zs) other ∙ sym (map-append (stored_of test site) us vs)
