-- What calls ask for, where a part fails or is there.
use Rattle.std.proofs.Common.{◌≡◌, Option, Result, Ok, Err, sym, subst}
use Rattle.std.specs.Result.{IsErrAnd}
use Rattle.semantics.specs.Statements as said
use Rattle.step_forms.specs.Asks.{Asks}
use Rattle.config_parts.specs.Legend.{Legend}
use Rattle.config_parts.specs.declared.act.Act.{Act}
use Rattle.value_types.specs.Outcomes.{Fails, Gives, GivesBy, Outcome, Yields}
use Rattle.value_types.specs.declared.fault.Fault.{Fault}
use Rattle.value_types.specs.declared.fault.Fault.TheVariants.{Dynamic, Memory}

-- a part fails: so does the whole
pub fails : {A : Type 0} (legend : Legend) (f : A → said.Act) (o : Outcome A) (e : Fault) → Gives o (Err e) → Asks legend (said.acting f o) (Err e)
fails legend f (Yields a) Dynamic gives = absurd (let bad = gives in cc)
fails legend f (Fails why) Dynamic gives = tt
fails legend f o Memory gives = tt

pub fails-by : {A B : Type 0} (legend : Legend) (by : B → A) (f : A → said.Act) (o : Outcome A) (e : Fault) → GivesBy by o (Err e) → Asks legend (said.acting f o) (Err e)
fails-by legend by f (Yields a) Dynamic gives = absurd (let bad = gives in cc)
fails-by legend by f (Fails why) Dynamic gives = tt
fails-by legend by f o Memory gives = tt

-- and what is handed on
pub handed : (legend : Legend) (asked : said.Act) (e : Fault) (r : Result (Option Act) Fault) → IsErrAnd r (λ x. x ≡ e) → Asks legend asked (Err e) → Asks legend asked r
handed legend asked e (Ok a) is h = absurd is
handed legend asked e (Err x) is h = subst (λ y. Asks legend asked (Err y)) (sym is) h

pub refused : (legend : Legend) (asked : said.Act) (r : Result (Option Act) Fault) → IsErrAnd r (λ x. x ≡ Memory) → Asks legend asked r
refused legend asked (Ok a) is = absurd is
refused legend asked (Err x) is = subst (λ y. Asks legend asked (Err y)) (sym is) tt

-- a part is there
pub there : {A : Type 0} (legend : Legend) (f : A → said.Act) (o : Outcome A) (a : A) (r : Result (Option Act) Fault) → o ≡ Yields a → Asks legend (f a) r → Asks legend (said.acting f o) r
there legend f o a r is h = subst (λ p. Asks legend (said.acting f p) r) (sym is) h

pub asked : (legend : Legend) (one other : said.Act) (r : Result (Option Act) Fault) → one ≡ other → Asks legend other r → Asks legend one r
asked legend one other r is h = subst (λ a. Asks legend a r) (sym is) h

-- a part fails that is known by what stands for it
pub acting-fails : {A B : Type 0} (legend : Legend) (by : B → A) (f : A → said.Act) (o p : Outcome A) (e : Fault) (r : Result (Option Act) Fault) → p ≡ o → GivesBy by p (Err e) → IsErrAnd r (λ x. x ≡ e)
    → Asks legend (said.acting f o) r
acting-fails legend by f o p e r same gives is =
    handed legend (said.acting f o) e r is (subst (λ q. Asks legend (said.acting f q) (Err e)) same (fails-by legend by f p e gives))

pub part-fails : {A : Type 0} (legend : Legend) (f : A → said.Act) (o : Outcome A) (e : Fault) (r : Result (Option Act) Fault) → Gives o (Err e) → IsErrAnd r (λ x. x ≡ e) → Asks legend (said.acting f o) r
part-fails legend f o e r gives is = handed legend (said.acting f o) e r is (fails legend f o e gives)
