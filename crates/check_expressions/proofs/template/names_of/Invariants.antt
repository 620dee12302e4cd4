use Rattle.std.proofs.Common.{◌≡◌, ℕ, List, map, drop, bytes_eq}
use Rattle.std.specs.List.{list_any}
use Rattle.ttcn_syntax.specs.declared.tree.template.FieldTemplate.{out-FieldTemplate}
use Rattle.check_expressions.proofs.Elements.{met_or_left}
use Rattle.check_expressions.proofs.template.names_of.Given as goal

-- a name that was met or is left is one of all
abbrev pub invariant-loop-part : goal.invariant-loop-part
invariant-loop-part l = (name : List ℕ) →
    met_or_left (λ part. (out-FieldTemplate part).name) l.names (drop l.part-index l.parts) name ≡ list_any (bytes_eq name) (map (λ part. (out-FieldTemplate part).name) l.fn.parts)
