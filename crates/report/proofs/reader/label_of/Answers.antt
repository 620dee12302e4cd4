use Rattle.std.proofs.Common.{rules, [], ◌∷◌, codes}
use Rattle.std.proofs.lemmas.Bool.Decides.{Decides-eqb}
use Rattle.std.proofs.lemmas.Slice.Eq.{strip_prefix_is}
use Rattle.report.proofs.Wholes.{delivery-read, expiry-read, no-label-before-slash, no-label-from-expiry}
use Rattle.report.proofs.reader.label_of.Goals as goal

pub returns-in-Some : goal.returns-in-Some
returns-in-Some c =
    let begins = rw c.in-Some.is at (strip_prefix_is Decides-eqb c.args.text.now (codes "system.") c.strip_prefix.result c.strip_prefix.ensures.cases) in
    delivery-read c.args.text.now c.in-Some.system_port.now c.in_ok-name_of.field-0 c.map.result begins c.in_ok-name_of.ensures c.map.ensures.cases

pub returns-in_default-2 : goal.returns-in_default-2
returns-in_default-2 c =
    let begins = rw c.in-Some-strip_prefix.is at (strip_prefix_is Decides-eqb c.args.text.now (109 ∷ 116 ∷ 99 ∷ []) c.strip_prefix-2.result c.strip_prefix-2.ensures.cases) in
    no-label-from-expiry c.args.text.now c.in-Some-strip_prefix.names.now c.in-Some-cut_at.path.now c.in-Some-cut_at.timer.now begins (search rules) (search rules)

pub returns-in_default-3 : goal.returns-in_default-3
returns-in_default-3 c =
    let begins = rw c.in-Some-strip_prefix.is at (strip_prefix_is Decides-eqb c.args.text.now (109 ∷ 116 ∷ 99 ∷ []) c.strip_prefix-2.result c.strip_prefix-2.ensures.cases) in
    no-label-before-slash c.args.text.now c.in-Some-strip_prefix.names.now c.in-Some-cut_at.path.now c.in-Some-cut_at.timer.now begins (search rules) (search rules)

pub returns : goal.returns
returns c =
    let begins = rw c.in-Some-strip_prefix.is at (strip_prefix_is Decides-eqb c.args.text.now (109 ∷ 116 ∷ 99 ∷ []) c.strip_prefix-2.result c.strip_prefix-2.ensures.cases) in
    expiry-read c.args.text.now c.in-Some-strip_prefix.names.now c.in-Some-cut_at.path.now c.in-Some-cut_at.timer.now c.in-Some-3.component c.in-Some-2.frame c.in-Some-2.timer begins
    (search rules) (search rules) (search rules)
