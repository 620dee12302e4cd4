-- Labels of fine runs and their texts.
use Rattle.std.proofs.Common.{◌≡◌, ℕ, false, List, [], ◌∷◌, ◌++◌, sym, refl, ap, ◌∙◌, append_assoc, arith, codes}
use Rattle.report.specs.Labels.{fine_text, label_text, path_text}
use Rattle.report.specs.Runs.{IsProperFine}
use Rattle.report.specs.internal.Reader.{HasBareEnds}
use Rattle.report.proofs.Wholes.{apart, label-ends, label-same, name-ends, name-same}
use Rattle.step_labels.specs.declared.fine.FineLabel.{FineLabel}
use Rattle.step_labels.specs.declared.fine.FineLabel.TheVariants.{Snap, Choose, Plain}
use Rattle.step_labels.specs.declared.label.Label.{Label}
use Rattle.step_labels.specs.declared.label.Label.TheVariants.{Delivery, Expiry, Statement}
use Rattle.ttcn_syntax.specs.Characters.{is_blank}
use Rattle.value_types.specs.declared.path.Path.{Path}

-- a word before a text whose ends are bare
behind-word : (first : ℕ) (others text : List ℕ) → is_blank first ≡ false → HasBareEnds text → HasBareEnds (first ∷ (others ++ text))
behind-word first others text no_blank h = record {
  first = first;
  others = others ++ text;
  begins = refl;
  no_blank_first = no_blank;
  front = first ∷ (others ++ h.front);
  last = h.last;
  ends = ap (λ t. first ∷ t) (ap (λ t. others ++ t) h.ends ∙ sym (append_assoc others h.front (h.last ∷ [])));
  no_blank_last = h.no_blank_last;
}

pub fine-ends : (label : FineLabel) → IsProperFine label → HasBareEnds (fine_text label)
fine-ends (Snap path) proper = behind-word 115 (codes "nap ") (path_text path.numbers) refl (name-ends path.numbers proper)
fine-ends (Choose path) proper = behind-word 99 (codes "hoose ") (path_text path.numbers) refl (name-ends path.numbers proper)
fine-ends (Plain label) proper = label-ends label proper

-- no label begins as a snapshot does, nor as a choice does
no-snap : (text : List ℕ) (path : Path) (label : Label) → text ≡ fine_text (Snap path) → text ≡ label_text label → ⊥
no-snap text path (Statement q) left right = apart text _ _ 0 (omega arith) left right
no-snap text path (Expiry q frame timer) left right = apart text _ _ 0 (omega arith) left right
no-snap text path (Delivery name) left right = apart text _ _ 1 (omega arith) left right

no-choice : (text : List ℕ) (path : Path) (label : Label) → text ≡ fine_text (Choose path) → text ≡ label_text label → ⊥
no-choice text path (Statement q) left right = apart text _ _ 0 (omega arith) left right
no-choice text path (Expiry q frame timer) left right = apart text _ _ 0 (omega arith) left right
no-choice text path (Delivery name) left right = apart text _ _ 0 (omega arith) left right

-- a text is that of one label of a fine run
pub fine-same : (text : List ℕ) (one other : FineLabel) → IsProperFine one → IsProperFine other → text ≡ fine_text one → text ≡ fine_text other → one ≡ other
fine-same text (Snap one) (Snap other) p q left right = ap Snap (name-same one other p q (let is : codes "snap " ++ path_text one.numbers ≡ codes "snap " ++ path_text other.numbers = sym left ∙ right in cc))
fine-same text (Choose one) (Choose other) p q left right = ap Choose (name-same one other p q (let is : codes "choose " ++ path_text one.numbers ≡ codes "choose " ++ path_text other.numbers = sym left ∙ right in cc))
fine-same text (Plain one) (Plain other) p q left right = ap Plain (label-same text one other p q left right)
fine-same text (Snap one) (Choose other) p q left right = absurd (apart text _ _ 0 (omega arith) left right)
fine-same text (Snap one) (Plain other) p q left right = absurd (no-snap text one other left right)
fine-same text (Choose one) (Snap other) p q left right = absurd (apart text _ _ 0 (omega arith) left right)
fine-same text (Choose one) (Plain other) p q left right = absurd (no-choice text one other left right)
fine-same text (Plain one) (Snap other) p q left right = absurd (no-snap text other one right left)
fine-same text (Plain one) (Choose other) p q left right = absurd (no-choice text other one right left)
