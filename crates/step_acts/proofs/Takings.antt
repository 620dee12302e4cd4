-- Branches that are taken, with what code keeps of them.
use Rattle.std.proofs.Common.{◌≡◌, refl, sym, ap, ◌∙◌, List, [], ◌∷◌, ◌++◌, map, Some, None}
use Rattle.ttcn_syntax.specs.declared.tree.statement.Statement.{Statement}
use Rattle.step_acts.specs.internal.Takings.{effected_by, limited, stored_all}
use Rattle.step_choice.specs.Deeds.{Deed, deed_of, stored_of}
use Rattle.step_data.specs.Frames.{entered_all}
use Rattle.semantics.specs.Branches.{Chance}
use Rattle.semantics.specs.Configurations.{Data, Frame}
use Rattle.semantics.specs.Events.{Effect, Elapses, Plain, Receives, Redirect}
use Rattle.semantics.specs.Items.{Item}
use Rattle.semantics.specs.Sites.{Site}
use Rattle.semantics.specs.Snapshots.{Test}
use Rattle.semantics.specs.Statements as said
use Rattle.semantics.specs.Storing.{in_last, store, target_meant, with_calls, with_remaining}
use Rattle.semantics.specs.Taking.{effected, entered, marked, port_taken, store_all, taken}
use Rattle.value_types.specs.Outcomes.{Fails, Outcome, Yields, outcome_and_then}

and-then-as : {A B : Type 0} (f g : A → Outcome B) (o : Outcome A) → ((a : A) → f a ≡ g a) → outcome_and_then f o ≡ outcome_and_then g o
and-then-as f g (Yields a) h = h a
and-then-as f g (Fails why) h = refl

acting-as : {A : Type 0} (f g : A → said.Act) (o : Outcome A) → ((a : A) → f a ≡ g a) → said.acting f o ≡ said.acting g o
acting-as f g (Yields a) h = h a
acting-as f g (Fails why) h = refl

stored-as : (test : Test) (site : Site) (redirects : List Redirect) (own : Data) → stored_all test (map (stored_of test site) redirects) own ≡ store_all test site redirects own
stored-as test site [] own = refl
stored-as test site (r ∷ rs) own =
    and-then-as (stored_all test (map (stored_of test site) rs)) (store_all test site rs) (store test (target_meant test site r.reference) r.value own) (λ d. stored-as test site rs d)

-- the effect of a branch is what code keeps of it
effect-as : (test : Test) (site : Site) (effect : Effect) (own : Data)
    → effected_by test (deed_of test site effect) own ≡ said.acting (said.act_port (port_taken effect)) (outcome_and_then limited (effected test site effect own))
effect-as test site Plain own = acting-as (said.Requests said.Continues) (said.act_port None) (limited own) (λ d. refl)
effect-as test site (Receives port redirects) own =
    ap (λ o. said.acting (said.Requests (said.Removes port)) (outcome_and_then limited o)) (stored-as test site redirects own)
    ∙ acting-as (said.Requests (said.Removes port)) (said.act_port (Some port)) (outcome_and_then limited (store_all test site redirects own)) (λ d. refl)
effect-as test site (Elapses name) own = acting-as (said.Requests said.Continues) (said.act_port None) (outcome_and_then limited (effected test site (Elapses name) own)) (λ d. refl)

pub takes : (test : Test) (site : Site) (s : Statement) (rest : List Item) (chance : Chance) (effect : Effect) (own behind : Data) (deed : Deed) (frames : List Frame) (items : List Item)
    → deed ≡ deed_of test chance.judge.site effect → frames ≡ chance.way.frames → items ≡ marked site s rest chance.way → behind ≡ entered_all frames items own
    → said.acting (said.act_port (port_taken effect)) (outcome_and_then limited (taken test site s rest chance effect own)) ≡ effected_by test deed behind
takes test site s rest chance effect own behind deed frames items does above leads is =
    sym (effect-as test chance.judge.site effect (with_calls (entered site s rest chance.way own.calls) own))
    ∙ ap (effected_by test (deed_of test chance.judge.site effect))
    (ap (λ f. with_calls (f ++ in_last (with_remaining (marked site s rest chance.way)) own.calls) own) (sym above)
    ∙ ap (λ l. with_calls (frames ++ in_last (with_remaining l) own.calls) own) (sym leads) ∙ sym is)
    ∙ ap (λ d. effected_by test d behind) (sym does)
