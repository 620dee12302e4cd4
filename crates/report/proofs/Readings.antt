-- What lines and files read as, whatever labels they hold.
use Rattle.std.proofs.Common.{◌≡◌, ◌≢◌, ℕ, ◌+◌, ◌<◌, ◌≤◌, Bool, not, false, true, List, [], ◌∷◌, ◌++◌, length, get_or, map, take, drop, sym, refl, ap, ◌∙◌, subst, arith, append-nil, add-one, suc, ◌⊎◌, inl, inr}
use Rattle.std.proofs.lemmas.List.{get_or-map, length-map, length-take-le, take-append-drop, take_all, take_more}
use Rattle.std.proofs.lemmas.List.Elements.{filter-append}
use Rattle.std.specs.Borrow.{Bor}
use Rattle.std.specs.List.{AllZip, filter, list_all}
use Rattle.report.specs.Runs.{IsFirstUnread, ReadsAll, ReadsBy, has_text}
use Rattle.report.specs.internal.Reader.{HasBareEnds, IsNoText, IsTextOf, without_blanks_behind, without_blanks_before}
use Rattle.report.proofs.Blanks.{blank-core, blank-line, line-parts, text-between}
use Rattle.report.proofs.Cuts.{AllZip-more}
use Rattle.std.proofs.Math.Seq.{drop-cons}
use Rattle.ttcn_syntax.specs.Characters.{is_blank}

-- ---- one line

pub no-content : (line core : List ℕ) → core ≡ without_blanks_behind (without_blanks_before line) → length core ≡ 0 → has_text line ≡ false
no-content line [] is empty = ap not (blank-line line (sym is))
no-content line (b ∷ core) is empty = absurd (omega arith)

content-at : (line : List ℕ) (b : Bool) → list_all is_blank line ≡ b → without_blanks_behind (without_blanks_before line) ≢ [] → not b ≡ true
content-at line true is some = absurd (some (blank-core line is))
content-at line false is some = refl

some-content : (line core : List ℕ) → core ≡ without_blanks_behind (without_blanks_before line) → length core ≢ 0 → has_text line ≡ true
some-content line core is some = content-at line (list_all is_blank line) refl (λ none. some (ap length (is ∙ none)))

module _ (X : Type 0) (text_of : X → List ℕ) (IsHeld : X → Type 0) where
  pub content-label : (line core : List ℕ) (label : X) → core ≡ without_blanks_behind (without_blanks_before line) → length core ≢ 0
      → IsTextOf text_of IsHeld core label → (has_text line ≡ true) × ReadsBy text_of IsHeld line label
  content-label line core label is some written =
      let parts = line-parts line in
      let text : without_blanks_behind (without_blanks_before line) ≡ text_of label = sym is ∙ written.0 in (
        some-content line core is some,
        record {
          before = parts.0;
          behind = parts.1;
          blank_before = parts.2;
          blank_behind = parts.3;
          whole = parts.4 ∙ ap (λ t. parts.0 ++ (t ++ parts.1)) text;
          proper = written.1;
        },
      )

  -- a label's text reads as the label
  pub text-read : (label : X) → IsHeld label → ReadsBy text_of IsHeld (text_of label) label
  text-read label proper = record {
    before = [];
    behind = [];
    blank_before = refl;
    blank_behind = refl;
    whole = sym (append-nil (text_of label));
    proper = proper;
  }

module _ (X : Type 0) (text_of : X → List ℕ) (IsHeld : X → Type 0) (bare : (label : X) → IsHeld label → HasBareEnds (text_of label)) where
  -- a line that reads as a label has its text between its blanks
  line-core : (line : List ℕ) (label : X) → ReadsBy text_of IsHeld line label → without_blanks_behind (without_blanks_before line) ≡ text_of label
  line-core line label reads =
      let ends = bare label reads.proper in
      ap (λ t. without_blanks_behind (without_blanks_before t)) reads.whole
      ∙ text-between reads.before (text_of label) reads.behind ends.others ends.front ends.first ends.last reads.blank_before reads.blank_behind
      ends.begins ends.no_blank_first ends.ends ends.no_blank_last

  pub content-bad : (line core : List ℕ) → core ≡ without_blanks_behind (without_blanks_before line) → length core ≢ 0 → IsNoText text_of IsHeld core
      → (has_text line ≡ true) × ((label : X) → ReadsBy text_of IsHeld line label → ⊥)
  content-bad line core is some bad = (some-content line core is some, λ label reads. bad label reads.proper (is ∙ line-core line label reads))

  -- a line reads as at most one label, if a text is that of one label at most
  pub one-label : ((text : List ℕ) (one other : X) → IsHeld one → IsHeld other → text ≡ text_of one → text ≡ text_of other → one ≡ other)
      → (line : List ℕ) (one other : X) → ReadsBy text_of IsHeld line one → ReadsBy text_of IsHeld line other → one ≡ other
  one-label same line one other first second =
      same (without_blanks_behind (without_blanks_before line)) one other first.proper second.proper (line-core line one first) (line-core line other second)

-- ---- line by line

-- a line that is borrowed from a list of lines
pub line-at : (lines : List (Bor (List ℕ))) (k : ℕ) (d : Bor (List ℕ)) → k < length lines
    → (k < length (map (λ line. line.now) lines)) × ((get_or lines k d).now ≡ get_or (map (λ line. line.now) lines) k (get_or lines k d).now)
line-at lines k d within = (simp length-map (omega arith), sym (get_or-map (λ line. line.now) lines k d _ within))

line-more : (lines : List (List ℕ)) (k : ℕ) (line : List ℕ) → (k < length lines) × (line ≡ get_or lines k line)
    → filter has_text (take (k + 1) lines) ≡ filter has_text (take k lines) ++ filter has_text (line ∷ [])
line-more lines k line turn =
    ap (filter has_text) (take_more lines k line turn.0 ∙ ap (λ t. take k lines ++ t ∷ []) (sym turn.1)) ∙ filter-append has_text (take k lines) (line ∷ [])

rest-from : (lines : List (List ℕ)) (k : ℕ) (line : List ℕ) → (k < length lines) × (line ≡ get_or lines k line) → drop k lines ≡ line ∷ drop (k + 1) lines
rest-from lines k line turn = rw (add-one, drop-cons lines k line turn.0) (ap (λ t. t ∷ drop (suc k) lines) (sym turn.1))

module _ (X : Type 0) (Reads : List ℕ → X → Type 0) where
  pub all-blank : (lines : List (List ℕ)) (k count : ℕ) (line : List ℕ) (labels : List X) → count ≡ k + 1 → (k < length lines) × (line ≡ get_or lines k line)
      → has_text line ≡ false → ReadsAll Reads (take k lines) labels → ReadsAll Reads (take count lines) labels
  all-blank lines k count line labels counted turn blank reads =
      let none : filter has_text (line ∷ []) ≡ [] = rw blank in
      let same : filter has_text (take k lines) ≡ filter has_text (take count lines) =
      sym (ap (λ n. filter has_text (take n lines)) counted ∙ (line-more lines k line turn ∙ (ap (λ t. filter has_text (take k lines) ++ t) none ∙ append-nil (filter has_text (take k lines))))) in
      subst (λ t. AllZip Reads t labels) same reads

  pub all-more : (lines : List (List ℕ)) (k count : ℕ) (line : List ℕ) (label : X) (labels new : List X) → count ≡ k + 1 → (k < length lines) × (line ≡ get_or lines k line)
      → (has_text line ≡ true) × Reads line label → new ≡ labels ++ label ∷ [] → ReadsAll Reads (take k lines) labels → ReadsAll Reads (take count lines) new
  all-more lines k count line label labels new counted turn here pushed reads =
      let one : filter has_text (line ∷ []) ≡ line ∷ [] = rw (here.0) in
      let same : filter has_text (take k lines) ++ line ∷ [] ≡ filter has_text (take count lines) =
      sym (ap (λ n. filter has_text (take n lines)) counted ∙ (line-more lines k line turn ∙ ap (λ t. filter has_text (take k lines) ++ t) one)) in
      subst (AllZip Reads (filter has_text (take count lines))) (sym pushed)
      (subst (λ t. AllZip Reads t (labels ++ label ∷ [])) same (AllZip-more Reads (filter has_text (take k lines)) labels line label reads here.1))

  pub all-bad : (lines : List (List ℕ)) (k number : ℕ) (line : List ℕ) (labels : List X) → number ≡ k + 1 → (k < length lines) × (line ≡ get_or lines k line)
      → (has_text line ≡ true) × ((label : X) → Reads line label → ⊥) → ReadsAll Reads (take k lines) labels → IsFirstUnread Reads lines number
  all-bad lines k number line labels counted turn here reads = record {
    before = take k lines;
    line = line;
    behind = drop (k + 1) lines;
    whole = sym (take-append-drop k lines) ∙ ap (λ t. take k lines ++ t) (rest-from lines k line turn);
    number_is = counted ∙ ap (λ n. n + 1) (sym (length-take-le k lines (omega arith)));
    labels = labels;
    reads = reads;
    text = here.0;
    bad = here.1;
  }

  pub all-read : (lines : List (List ℕ)) (k : ℕ) (labels : List X) → length lines ≤ k → ReadsAll Reads (take k lines) labels → ReadsAll Reads lines labels
  all-read lines k labels every reads = subst (λ t. ReadsAll Reads t labels) (take_all k lines every) reads

-- ---- lines read in one way

module _ (X : Type 0) (Reads : List ℕ → X → Type 0) (one_way : (line : List ℕ) (one other : X) → Reads line one → Reads line other → one ≡ other) where
  zip-same : (lines : List (List ℕ)) (labels others : List X) → AllZip Reads lines labels → AllZip Reads lines others → labels ≡ others
  zip-same [] [] [] one other = refl
  zip-same [] [] (l ∷ others) one other = absurd other
  zip-same [] (l ∷ labels) others one other = absurd one
  zip-same (line ∷ lines) [] others one other = absurd one
  zip-same (line ∷ lines) (l ∷ labels) [] one other = absurd other
  zip-same (line ∷ lines) (l ∷ labels) (m ∷ others) one other =
      rw (one_way line l m one.0 other.0, zip-same lines labels others one.1 other.1)

  pub all-same : (lines : List (List ℕ)) (labels others : List X) → ReadsAll Reads lines labels → ReadsAll Reads lines others → labels ≡ others
  all-same lines labels others one other = zip-same (filter has_text lines) labels others one other

cons-same : (x y : List ℕ) (xs ys : List (List ℕ)) → x ≡ y → xs ≡ ys → x ∷ xs ≡ y ∷ ys
cons-same x y xs ys first rest = cc

longer-front : (xs : List (List ℕ)) (x : List ℕ) (ys us : List (List ℕ)) (v : List ℕ) (vs : List (List ℕ)) → xs ++ x ∷ ys ≡ us ++ v ∷ vs → length xs < length us
    → (ws : List (List ℕ)) × (us ≡ xs ++ x ∷ ws)
longer-front xs x ys [] v vs is shorter = absurd (omega arith)
longer-front [] x ys (u ∷ us) v vs is shorter = let same : x ≡ u = cc in (us, ap (λ t. t ∷ us) (sym same))
longer-front (y ∷ xs) x ys (u ∷ us) v vs is shorter =
    let rest : xs ++ x ∷ ys ≡ us ++ v ∷ vs = cc in
    let same : y ≡ u = cc in
    let found = longer-front xs x ys us v vs rest (omega arith) in
    (found.0, cons-same u y us (xs ++ x ∷ found.0) (sym same) found.1)

cases_lt : (a b : ℕ) → (a < b) ⊎ ((a ≡ b) ⊎ (b < a))
cases_lt a b = grind arith

module _ (X : Type 0) (Reads : List ℕ → X → Type 0) where
  zip-at : (before : List (List ℕ)) (line : List ℕ) (behind : List (List ℕ)) (labels : List X) → AllZip Reads (before ++ line ∷ behind) labels → (label : X) × Reads line label
  zip-at [] line behind [] reads = absurd reads
  zip-at [] line behind (l ∷ labels) reads = (l, reads.0)
  zip-at (first ∷ before) line behind [] reads = absurd reads
  zip-at (first ∷ before) line behind (l ∷ labels) reads = zip-at before line behind labels reads.1

  read-at : (lines before : List (List ℕ)) (line : List ℕ) (behind : List (List ℕ)) (labels : List X) → lines ≡ before ++ line ∷ behind → has_text line ≡ true
      → ReadsAll Reads lines labels → (label : X) × Reads line label
  read-at lines before line behind labels whole text reads =
      let kept : filter has_text (line ∷ behind) ≡ line ∷ filter has_text behind = rw text in
      let parts : filter has_text lines ≡ filter has_text before ++ line ∷ filter has_text behind =
      ap (filter has_text) whole ∙ (filter-append has_text before (line ∷ behind) ∙ ap (λ t. filter has_text before ++ t) kept) in
      zip-at (filter has_text before) line (filter has_text behind) labels (subst (λ t. AllZip Reads t labels) parts reads)

  -- where all lines read as labels, no line is bad
  pub none-unread : (lines : List (List ℕ)) (labels : List X) (number : ℕ) → ReadsAll Reads lines labels → IsFirstUnread Reads lines number → ⊥
  none-unread lines labels number reads first =
      let found = read-at lines first.before first.line first.behind labels first.whole first.text reads in
      first.bad found.0 found.1

  not-later : (lines : List (List ℕ)) (m n : ℕ) (one : IsFirstUnread Reads lines m) (other : IsFirstUnread Reads lines n) → length one.before < length other.before → ⊥
  not-later lines m n one other shorter =
      let longer = longer-front one.before one.line one.behind other.before other.line other.behind (sym one.whole ∙ other.whole) shorter in
      let found = read-at other.before one.before one.line longer.0 other.labels longer.1 one.text other.reads in
      one.bad found.0 found.1

  -- one line is the first that is bad
  pub first-same : (lines : List (List ℕ)) (m n : ℕ) → IsFirstUnread Reads lines m → IsFirstUnread Reads lines n → m ≡ n
  first-same lines m n one other =
      elim (cases_lt (length one.before) (length other.before)) [
        | inl shorter ↦ absurd (not-later lines m n one other shorter)
        | inr later ↦ elim later [
          | inl same ↦ one.number_is ∙ (ap (λ k. k + 1) same ∙ sym other.number_is)
          | inr longer ↦ absurd (not-later lines n m other one longer)
        ]
      ]
