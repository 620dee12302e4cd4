-- What is cut of bytes is what was spelled.
use Rattle.std.proofs.Common.{◌≡◌, ℕ, zero, suc, ◌+◌, ◌-◌, ◌<◌, ◌≤◌, Bool, true, false, nat_eq, if◌then◌else◌, List, [], ◌∷◌, ◌++◌, length, map, min, take, drop, get_or, slice_get, Some, None, refl, sym, ap, ◌∙◌, arith, append_assoc, length-append}
use Rattle.std.proofs.lemmas.List.{append-nil, length-map, map-append, take-append-drop}
use Rattle.std.proofs.lemmas.List.Folds.{flat_map-map}
use Rattle.std.proofs.Math.Seq.{drop-append_seam, take-append_seam}
use Rattle.std.specs.List.{flat_map}
use Rattle.std.specs.Option.{option_to_list}
use Rattle.config_packed.specs.internal.Cuts.{bytes_read, cut_content, cut_front, cut_fronts, cut_sized, first_of, fronts_read, since}
use Rattle.config_packed.specs.Packs.{verdict_in}
use Rattle.config_packed.specs.Pieces.{AreParts, IsCut, bytes_of, first_message, front_at, has_mappings, spell_front, spell_key, spelled_parts}
use Rattle.config_packed.specs.Reading.{Reads, read_byte, read_items, read_long, read_message, read_verdict}
use Rattle.config_packed.specs.Shares.{half, head_of}
use Rattle.config_packed.specs.Spelling.{going_code, spell_config, spell_content, spell_contents, spell_head, spell_list, spell_long, spell_message, spell_outline, spell_own, spell_pair, spell_queue, spell_sized, spell_verdict}
use Rattle.config_packed.specs.declared.pieces.ComponentBytes.{ComponentBytes}
use Rattle.config_packed.specs.declared.pieces.ConfigBytes.{ConfigBytes}
use Rattle.config_packed.proofs.ConfigsBack.{message_back, verdict-back}
use Rattle.config_packed.proofs.Items.{ahead, items-more}
use Rattle.config_packed.proofs.NumbersBack.{items-seen, read-long-back, read-pair-back}
use Rattle.ttcn_syntax.specs.declared.tree.statement.Verdict.{Verdict}
use Rattle.config_parts.specs.declared.component.Component.{Component}
use Rattle.config_parts.specs.declared.component.Message.{Message}
use Rattle.config_parts.specs.declared.component.Queue.{Queue}
use Rattle.config_parts.specs.declared.config.Config.{Config}
use Rattle.config_parts.specs.declared.config.Config.TheVariants as config
use Rattle.config_parts.specs.declared.config.Going.{Going}

-- ---- bytes that are kept as bytes

pub since-back : (bytes rest : List ℕ) → since (bytes ++ rest) rest ≡ bytes
since-back bytes rest =
    let n : length (bytes ++ rest) - length rest ≡ length bytes = omega (arith, length-append bytes rest) in
    ap (λ m. take m (bytes ++ rest)) n ∙ take-append_seam bytes rest

pub bytes-read-back : {A : Type 0} (read : Reads A) (bytes rest : List ℕ) → (read (bytes ++ rest)).1 ≡ rest → bytes_read read (bytes ++ rest) ≡ (bytes, rest)
bytes-read-back read bytes rest behind =
    ap (λ (left : List ℕ). (since (bytes ++ rest) left, left)) behind ∙ ap (λ (kept : List ℕ). (kept, rest)) (since-back bytes rest)

message-kept : (message : Message) (rest : List ℕ) → bytes_read read_message (spell_message message ++ rest) ≡ (spell_message message, rest)
message-kept message rest = bytes-read-back read_message (spell_message message) rest (ap (λ p. p.1) (message_back message rest))

-- ---- components

pub cut-sized-back : (bytes rest : List ℕ) → cut_sized (spell_sized bytes ++ rest) ≡ (bytes, rest)
unfolding cut_sized spell_sized
cut-sized-back bytes rest =
    ap cut_sized (append_assoc (spell_long (length bytes)) bytes rest)
    ∙ ap (λ (p : ℕ × List ℕ). (take p.0 p.1, drop p.0 p.1)) (read-long-back (length bytes) (bytes ++ rest))
    ∙ (λ i. (take-append_seam bytes rest i, drop-append_seam bytes rest i))

pub cut-content-back : (c : Component) (rest : List ℕ) → cut_content (spell_content c ++ rest) ≡ (spelled_parts c, rest)
unfolding cut_content spell_content
cut-content-back c rest = simp (append_assoc, cut-sized-back)

pub contents-cut : (cs : List Component) (rest : List ℕ) → read_items cut_content (length cs) (flat_map spell_content cs ++ rest) ≡ (map spelled_parts cs, rest)
contents-cut = items-seen spell_content cut_content spelled_parts cut-content-back

-- the parts of one more component are cut
pub cut-more : (count turn : ℕ) (before after : List ℕ) (whole : List (List ℕ × List ℕ) × List ℕ) (items more : List ComponentBytes) (x : ComponentBytes)
    → turn < count → more ≡ items ++ x ∷ [] → bytes_of x ≡ (cut_content before).0 → after ≡ (cut_content before).1
    → whole ≡ ahead (map bytes_of items) (read_items cut_content (count - turn) before)
    → whole ≡ ahead (map bytes_of more) (read_items cut_content (count - (turn + 1)) after)
cut-more count turn before after whole items more x h pushed is rest e =
    items-more cut_content count turn before after whole (map bytes_of items) (bytes_of x) h is rest e
    ∙ ap (λ (xs : List (List ℕ × List ℕ)). ahead xs (read_items cut_content (count - (turn + 1)) after)) (sym (ap (map bytes_of) pushed ∙ map-append bytes_of items (x ∷ [])))

-- whether system ports are mapped is told by the first byte
mapped-told : (mapped : Bool) → nat_eq (if mapped then 2 else 1) 2 ≡ mapped
mapped-told true = refl
mapped-told false = refl

-- what stands before the components is cut
module _ (going : Going) where
  head-begins : (head : List ℕ) → head ≡ spell_head going → (read_byte head).0 ≡ going_code going.links
  unfolding spell_head read_byte
  head-begins head is = ap (λ (b : List ℕ). (read_byte b).0) is

  behind-first : (head tagged : List ℕ) → head ≡ spell_head going → tagged ≡ (read_byte head).1 → tagged ≡ spell_long (length going.components) ++ spell_sized (spell_outline going)
  unfolding spell_head read_byte
  behind-first head tagged is behind = behind ∙ ap (λ (b : List ℕ). (read_byte b).1) is

  -- it tells how many components there are
  pub head-counts : (head tagged : List ℕ) (count : ℕ) → head ≡ spell_head going → tagged ≡ (read_byte head).1 → count ≡ (read_long tagged).0 → count ≡ length going.components
  head-counts head tagged count is behind counts =
      counts ∙ ap (λ (t : List ℕ). (read_long t).0) (behind-first head tagged is behind) ∙ ap (λ (p : ℕ × List ℕ). p.0) (read-long-back (length going.components) (spell_sized (spell_outline going)))

  pub head-cut : (head tagged counted outline : List ℕ) (tag : ℕ)
      → head ≡ spell_head going
      → tag ≡ (read_byte head).0
      → tagged ≡ (read_byte head).1
      → counted ≡ (read_long tagged).1
      → outline ≡ (cut_sized counted).0
      → (outline ≡ spell_outline going) × (nat_eq tag 2 ≡ has_mappings going.links)
  head-cut head tagged counted outline tag is a b c d =
      let sized = spell_sized (spell_outline going) in
      let counted-is : counted ≡ sized = c ∙ ap (λ (t : List ℕ). (read_long t).1) (behind-first head tagged is b) ∙ ap (λ (p : ℕ × List ℕ). p.1) (read-long-back (length going.components) sized) in (
        d ∙ ap (λ (s : List ℕ). (cut_sized s).0) (counted-is ∙ sym (append-nil sized)) ∙ ap (λ (p : List ℕ × List ℕ). p.0) (cut-sized-back (spell_outline going) []),
        ap (λ (n : ℕ). nat_eq n 2) (a ∙ head-begins head is) ∙ mapped-told (has_mappings going.links),
      )

-- the parts of a configuration that goes on are cut
module _ (going : Going) where
  abbrev contents_part : List ℕ
  contents_part = flat_map spell_content going.components

  begins-with : (bytes : List ℕ) → bytes ≡ spell_config (config.Going going) → (read_byte bytes).0 ≡ going_code going.links
  unfolding spell_config spell_head read_byte
  begins-with bytes is = ap (λ (b : List ℕ). (read_byte b).0) is

  tagged-is : (bytes tagged : List ℕ) → bytes ≡ spell_config (config.Going going) → tagged ≡ (read_byte bytes).1
      → tagged ≡ spell_long (length going.components) ++ (spell_sized (spell_outline going) ++ contents_part)
  unfolding spell_config spell_head read_byte
  tagged-is bytes tagged is behind =
      behind ∙ ap (λ (b : List ℕ). (read_byte b).1) is ∙ append_assoc (spell_long (length going.components)) (spell_sized (spell_outline going)) contents_part

  whole-is : (bytes : List ℕ) → bytes ≡ spell_config (config.Going going) → bytes ≡ spell_head going ++ contents_part
  unfolding spell_config
  whole-is bytes is = is

  pub parts-cut : (bytes tagged counted sized head outline : List ℕ) (tag count : ℕ) (parts : List (List ℕ × List ℕ))
      → bytes ≡ spell_config (config.Going going)
      → tag ≡ (read_byte bytes).0
      → tagged ≡ (read_byte bytes).1
      → count ≡ (read_long tagged).0
      → counted ≡ (read_long tagged).1
      → outline ≡ (cut_sized counted).0
      → sized ≡ (cut_sized counted).1
      → head ≡ since bytes sized
      → parts ≡ (read_items cut_content count sized).0
      → (head ≡ spell_head going) × (outline ≡ spell_outline going) × (parts ≡ map spelled_parts going.components) × (nat_eq tag 2 ≡ has_mappings going.links)
  parts-cut bytes tagged counted sized head outline tag count parts is a b c d e f h k =
      let read : read_long tagged ≡ (length going.components, spell_sized (spell_outline going) ++ contents_part) =
      ap read_long (tagged-is bytes tagged is b) ∙ read-long-back (length going.components) (spell_sized (spell_outline going) ++ contents_part) in
      let counted-is : counted ≡ spell_sized (spell_outline going) ++ contents_part = d ∙ ap (λ (p : ℕ × List ℕ). p.1) read in
      let cut : cut_sized counted ≡ (spell_outline going, contents_part) = ap cut_sized counted-is ∙ cut-sized-back (spell_outline going) contents_part in
      let sized-is : sized ≡ contents_part = f ∙ ap (λ (p : List ℕ × List ℕ). p.1) cut in
      let count-is : count ≡ length going.components = c ∙ ap (λ (p : ℕ × List ℕ). p.0) read in (
        h ∙ (λ i. since (whole-is bytes is i) (sized-is i)) ∙ since-back (spell_head going) contents_part,
        e ∙ ap (λ (p : List ℕ × List ℕ). p.0) cut,
        k ∙ (λ i. (read_items cut_content (count-is i) (sized-is i)).0) ∙ ap (λ (b : List ℕ). (read_items cut_content (length going.components) b).0) (sym (append-nil contents_part)) ∙ ap (λ p. p.0) (contents-cut going.components []),
        ap (λ (n : ℕ). nat_eq n 2) (a ∙ begins-with bytes is) ∙ mapped-told (has_mappings going.links),
      )

-- ---- halves of the components

take-long : {A : Type 0} (n : ℕ) (xs : List A) → n ≤ length xs → length (take n xs) ≡ n
take-long zero xs h = refl
take-long (suc n) [] h = absurd (omega arith)
take-long (suc n) (x ∷ xs) h = ap suc (take-long n xs (omega arith))

drop-long : {A : Type 0} (n : ℕ) (xs : List A) → length (drop n xs) ≡ length xs - n
drop-long zero xs = omega arith
drop-long (suc n) [] = omega arith
drop-long (suc n) (x ∷ xs) = drop-long n xs ∙ omega arith

half-below : (n : ℕ) → half n ≤ n
half-below n = omega arith

counted-cut : (n : ℕ) (cs : List Component) (bytes : List ℕ) → bytes ≡ spell_contents cs → n ≡ length cs → (read_items cut_content n bytes).0 ≡ map spelled_parts cs
counted-cut n cs bytes is counts =
    (λ i. (read_items cut_content (counts i) (is i)).0)
    ∙ ap (λ (b : List ℕ). (read_items cut_content (length cs) b).0) (sym (append-nil (spell_contents cs)))
    ∙ ap (λ (p : List (List ℕ × List ℕ) × List ℕ). p.0) (contents-cut cs [])

-- both halves are cut, one behind the other
pub halves-cut : (cs : List Component) (count first : ℕ) (front back : List ℕ) (none some all : List (List ℕ × List ℕ))
    → count ≡ length cs → first ≡ half count → front ≡ spell_contents (take (half (length cs)) cs) → back ≡ spell_contents (drop (half (length cs)) cs)
    → none ≡ [] → some ≡ none ++ (read_items cut_content first front).0 → all ≡ some ++ (read_items cut_content (count - first) back).0
    → all ≡ map spelled_parts cs
halves-cut cs count first front back none some all counts halved is-front is-back empty put put-too =
    let h = half (length cs) in
    let first-is : first ≡ h = halved ∙ ap half counts in
    let ahead-long : first ≡ length (take h cs) = first-is ∙ sym (take-long h cs (half-below (length cs))) in
    let behind-long : count - first ≡ length (drop h cs) = (λ i. counts i - first-is i) ∙ sym (drop-long h cs) in
    let some-is : some ≡ map spelled_parts (take h cs) = put ∙ (λ i. empty i ++ counted-cut first (take h cs) front is-front ahead-long i) in
    put-too ∙ (λ i. some-is i ++ counted-cut (count - first) (drop h cs) back is-back behind-long i)
    ∙ sym (map-append spelled_parts (take h cs) (drop h cs)) ∙ ap (map spelled_parts) (take-append-drop h cs)

-- ---- fronts

take-of-none : (count : ℕ) → ◌≡◌ {A = List ℕ} (take count []) []
take-of-none zero = refl
take-of-none (suc count) = refl

-- the first message of those that are spelled
first-back : (messages : List Message) → first_of (flat_map spell_message messages) ≡ flat_map spell_message (option_to_list (first_message messages))
first-back [] = take-of-none _
first-back (message ∷ messages) =
    ap (λ (p : List ℕ × List ℕ). p.0) (message-kept message (flat_map spell_message messages)) ∙ sym (append-nil (spell_message message))

first-counted : (messages : List Message) → min (length messages) 1 ≡ length (option_to_list (first_message messages))
first-counted [] = refl
first-counted (message ∷ messages) = omega arith

pub cut-front-back : (q : Queue) (rest : List ℕ) → cut_front (spell_queue q ++ rest) ≡ (spell_front (front_at q), rest)
unfolding cut_front spell_queue spell_front
cut-front-back q rest =
    let count = length q.messages in
    let messages = flat_map spell_message q.messages in
    ap cut_front (append_assoc (spell_pair count q.port) (spell_sized messages) rest)
    ∙ ap (λ (p : (ℕ × ℕ) × List ℕ). (spell_pair (min p.0.0 1) p.0.1 ++ spell_sized (first_of (cut_sized p.1).0), (cut_sized p.1).1)) (read-pair-back count q.port (spell_sized messages ++ rest))
    ∙ ap (λ (p : List ℕ × List ℕ). (spell_pair (min count 1) q.port ++ spell_sized (first_of p.0), p.1)) (cut-sized-back messages rest)
    ∙ (λ i. (spell_pair (first-counted q.messages i) q.port ++ spell_sized (first-back q.messages i), rest))

abbrev front_bytes : Queue → List ℕ
front_bytes queue = spell_front (front_at queue)

-- one more front is put
pub fronts-more : (count turn : ℕ) (before after start now more : List ℕ)
    → turn < count → more ≡ now ++ (cut_front before).0 → after ≡ (cut_front before).1
    → start ≡ now ++ fronts_read (count - turn) before
    → start ≡ more ++ fronts_read (count - (turn + 1)) after
unfolding read_items
fronts-more count turn before after start now more h put rest e =
    let k = count - (turn + 1) in
    let n : count - turn ≡ suc k = omega arith in
    e ∙ ap (λ m. now ++ fronts_read m before) n
    ∙ sym (append_assoc now (cut_front before).0 (fronts_read k (cut_front before).1))
    ∙ (λ i. sym put i ++ fronts_read k (sym rest i))

fronts-of : (qs : List Queue) → fronts_read (length qs) (flat_map spell_queue qs) ≡ flat_map spell_front (map front_at qs)
fronts-of qs =
    ap (fronts_read (length qs)) (sym (append-nil (flat_map spell_queue qs)))
    ∙ ap (λ p. flat_map (λ (front : List ℕ). front) p.0) (items-seen spell_queue cut_front front_bytes cut-front-back qs [])
    ∙ flat_map-map (λ (front : List ℕ). front) front_bytes qs
    ∙ sym (flat_map-map spell_front front_at qs)

-- all fronts are put
pub fronts-all : (queues behind left start counted key : List ℕ) (count turn : ℕ)
    → count ≡ (read_long queues).0 → behind ≡ (read_long queues).1
    → counted ≡ start ++ spell_long count
    → turn ≡ count
    → counted ++ fronts_read count behind ≡ key ++ fronts_read (count - turn) left
    → key ≡ start ++ cut_fronts queues
unfolding read_items
fronts-all queues behind left start counted key count turn counts rest put all e =
    let n : count - turn ≡ 0 = omega arith in
    sym (append-nil key) ∙ ap (λ m. key ++ fronts_read m left) (sym n) ∙ sym e
    ∙ ap (λ (bytes : List ℕ). bytes ++ fronts_read count behind) put
    ∙ append_assoc start (spell_long count) (fronts_read count behind)
    ∙ (λ i. start ++ (spell_long (counts i) ++ fronts_read (counts i) (rest i)))

-- those of queues that are spelled
pub fronts-back : (qs : List Queue) → cut_fronts (spell_list spell_queue qs) ≡ spell_list spell_front (map front_at qs)
unfolding spell_list
fronts-back qs =
    ap (λ (p : ℕ × List ℕ). spell_long p.0 ++ fronts_read p.0 p.1) (read-long-back (length qs) (flat_map spell_queue qs))
    ∙ (λ i. spell_long (sym (length-map qs front_at) i) ++ fronts-of qs i)

-- ---- keys

-- the parts at a place are those of the component there
pub cut-at : (items : List ComponentBytes) (components : List Component) (at : ℕ) (item : ComponentBytes) (component : Component)
    → map bytes_of items ≡ map spelled_parts components → item ≡ get_or items at item → at < length items → slice_get components at ≡ Some component
    → bytes_of item ≡ spelled_parts component
cut-at [] components at item component same is h found = absurd (omega arith)
cut-at (x ∷ xs) [] at item component same is h found = absurd (let n = ap length same in omega arith)
cut-at (x ∷ xs) (c ∷ cs) zero item component same is h found =
    let first : bytes_of x ≡ spelled_parts c = cc same in
    let here : c ≡ component = cc found in
    ap bytes_of is ∙ first ∙ ap spelled_parts here
cut-at (x ∷ xs) (c ∷ cs) (suc at) item component same is h found =
    let others : map bytes_of xs ≡ map spelled_parts cs = cc same in
    cut-at xs cs at item component others is (omega arith) found

-- the parts of a key are put one behind the other
pub key-put : (going : Going) (at : ℕ) (component : Component) (outline own : List ℕ) (start one two three four : List ℕ)
    → outline ≡ spell_outline going → own ≡ spell_own component.verdict component.own
    → one ≡ start ++ outline → two ≡ one ++ spell_long at → three ≡ two ++ own → four ≡ three ++ spell_list spell_front (map front_at component.queues)
    → four ≡ start ++ spell_key going at component
unfolding spell_key
key-put going at component outline own start one two three four a b c d e f =
    let fronts = spell_list spell_front (map front_at component.queues) in
    let put : four ≡ (((start ++ spell_outline going) ++ spell_long at) ++ spell_own component.verdict component.own) ++ fronts =
    f ∙ ap (λ (k : List ℕ). k ++ fronts) (e ∙ (λ i. (d ∙ ap (λ (k : List ℕ). k ++ spell_long at) (c ∙ ap (λ (k : List ℕ). start ++ k) a)) i ++ b i)) in
    put ∙ simp append_assoc

-- ---- configurations

-- the byte before a test case that goes on isn't 0
code-not-zero : (mapped : Bool) → ◌≡◌ {A = ℕ} (if mapped then 2 else 1) 0 → ⊥
code-not-zero true zero-byte = absurd (omega arith)
code-not-zero false zero-byte = absurd (omega arith)

pub going-begins : (going : Going) (head : List ℕ) → head ≡ spell_head going → (read_byte head).0 ≡ 0 → ⊥
going-begins going head is zero-byte = code-not-zero (has_mappings going.links) (sym (head-begins going head is) ∙ zero-byte)

pub head-ended : (whole : Config) (head : List ℕ) → head ≡ head_of whole → (read_byte head).0 ≡ 0 → AreParts whole None
head-ended (config.Ended v) head is zero-byte = tt
head-ended (config.Going going) head is zero-byte = going-begins going head is zero-byte

-- where the first byte isn't 0, the test case goes on
pub head-going : (whole : Config) (head : List ℕ) → head ≡ head_of whole → ((read_byte head).0 ≡ 0 → ⊥) → (going : Going) × (whole ≡ config.Going going)
unfolding spell_config read_byte
head-going (config.Ended v) head is some = absurd (some (ap (λ (b : List ℕ). (read_byte b).0) is))
head-going (config.Going going) head is some = (going, refl)

-- the verdict stands behind the byte 0
pub verdict-ended : (whole : Config) (head behind : List ℕ) → head ≡ head_of whole → (read_byte head).0 ≡ 0 → behind ≡ (read_byte head).1 → Some (read_verdict behind).0 ≡ verdict_in whole
unfolding spell_config read_byte
verdict-ended (config.Ended v) head behind is zero-byte rest =
    ap (λ (b : List ℕ). Some (read_verdict b).0) (rest ∙ ap (λ (b : List ℕ). (read_byte b).1) is ∙ sym (append-nil (spell_verdict v))) ∙ ap (λ (p : Verdict × List ℕ). Some p.0) (verdict-back v [])
verdict-ended (config.Going going) head behind is zero-byte rest = absurd (going-begins going head is zero-byte)

pub verdict-none : (whole : Config) (head : List ℕ) → head ≡ head_of whole → ((read_byte head).0 ≡ 0 → ⊥) → None ≡ verdict_in whole
unfolding spell_config read_byte
verdict-none (config.Ended v) head is some = absurd (some (ap (λ (b : List ℕ). (read_byte b).0) is))
verdict-none (config.Going going) head is some = refl

pub begins-ended : (whole : Config) (bytes : List ℕ) → bytes ≡ spell_config whole → (read_byte bytes).0 ≡ 0 → AreParts whole None
begins-ended (config.Ended v) bytes is zero-byte = tt
begins-ended (config.Going going) bytes is zero-byte = code-not-zero (has_mappings going.links) (sym (begins-with going bytes is) ∙ zero-byte)

pub begins-going : (whole : Config) (bytes : List ℕ) (parts : ConfigBytes) → bytes ≡ spell_config whole → ((read_byte bytes).0 ≡ 0 → ⊥)
    → ((going : Going) → bytes ≡ spell_config (config.Going going) → IsCut going parts) → AreParts whole (Some parts)
unfolding spell_config read_byte
begins-going (config.Ended v) bytes parts is some cut = some (ap (λ (b : List ℕ). (read_byte b).0) is)
begins-going (config.Going going) bytes parts is some cut = cut going is
