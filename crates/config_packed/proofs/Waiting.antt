-- The messages of a port in the bytes of queues.
use Rattle.std.proofs.Common.{◌≡◌, ℕ, suc, ◌+◌, ◌-◌, ◌<◌, nat_eq, Bool, if◌then◌else◌, List, [], ◌∷◌, ◌++◌, length, refl, sym, ap, ◌∙◌, arith, append_assoc, length-append, eq-eqb}
use Rattle.std.proofs.lemmas.Bool.{ne_eqb}
use Rattle.std.proofs.lemmas.Grind.{flat_map-append}
use Rattle.std.proofs.lemmas.List.{append-nil}
use Rattle.std.specs.List.{flat_map}
use Rattle.config_packed.specs.internal.Cuts.{AreAt, IsWithout, cut_sized, since}
use Rattle.config_packed.specs.Reading.{read_long, read_message, read_pair}
use Rattle.config_packed.specs.Spelling.{spell_list, spell_long, spell_message, spell_pair, spell_queue, spell_sized}
use Rattle.config_packed.proofs.ConfigsBack.{message_back}
use Rattle.config_packed.proofs.Cutting.{cut-sized-back, since-back}
use Rattle.config_packed.proofs.NumbersBack.{read-long-back, read-pair-back}
use Rattle.config_parts.specs.internal.Changes.{change_queue, with_message, without_first, without_message}
use Rattle.config_parts.specs.declared.component.Message.{Message}
use Rattle.config_parts.specs.declared.component.Queue.{Queue}

-- ---- the first queue of a port

-- before these bytes are those of queues that aren't of the port, and this many queues are left
pub record StandsBehind (port : ℕ) (qs : List Queue) (left : ℕ) (bytes : List ℕ) : Type 0 where
  pub passed : List Queue
  pub others : List Queue
  pub split : qs ≡ passed ++ others
  pub count : length others ≡ left
  pub here : bytes ≡ flat_map spell_queue others
  pub skips : (change : List Message → List Message) → change_queue port change qs ≡ passed ++ change_queue port change others

pub stands-first : (port : ℕ) (qs : List Queue) (queues start behind : List ℕ) (count : ℕ)
    → queues ≡ spell_list spell_queue qs → start ≡ queues → count ≡ (read_long start).0 → behind ≡ (read_long start).1
    → StandsBehind port qs (count - 0) behind
unfolding spell_list
stands-first port qs queues start behind count is begins counts rest =
    let read : read_long start ≡ (length qs, flat_map spell_queue qs) = ap read_long (begins ∙ is) ∙ read-long-back (length qs) (flat_map spell_queue qs) in
    let n : count ≡ length qs = counts ∙ ap (λ (p : ℕ × List ℕ). p.0) read in
    record {
      passed = [];
      others = qs;
      split = refl;
      count = omega arith;
      here = rest ∙ ap (λ (p : ℕ × List ℕ). p.1) read;
      skips = λ change. refl;
    }

queue-begins : (q : Queue) (rest : List ℕ) → read_pair (spell_queue q ++ rest) ≡ ((length q.messages, q.port), spell_sized (flat_map spell_message q.messages) ++ rest)
unfolding spell_queue
queue-begins q rest =
    ap read_pair (append_assoc (spell_pair (length q.messages) q.port) (spell_sized (flat_map spell_message q.messages)) rest)
    ∙ read-pair-back (length q.messages) q.port (spell_sized (flat_map spell_message q.messages) ++ rest)

next-of : (port : ℕ) (qs passed others : List Queue) (left : ℕ) (head : ℕ × ℕ) (bytes numbered after : List ℕ)
    → qs ≡ passed ++ others → length others ≡ suc left → bytes ≡ flat_map spell_queue others
    → ((change : List Message → List Message) → change_queue port change qs ≡ passed ++ change_queue port change others)
    → head ≡ (read_pair bytes).0 → numbered ≡ (read_pair bytes).1 → after ≡ (cut_sized numbered).1
    → (head.1 ≡ port → ⊥)
    → StandsBehind port qs left after
next-of port qs passed [] left head bytes numbered after split count here skips is behind rest other = absurd (omega arith)
next-of port qs passed (q ∷ os) left head bytes numbered after split count here skips is behind rest other =
    let begins = ap read_pair here ∙ queue-begins q (flat_map spell_queue os) in
    let head-is : head ≡ (length q.messages, q.port) = is ∙ ap (λ (p : (ℕ × ℕ) × List ℕ). p.0) begins in
    let numbered-is : numbered ≡ spell_sized (flat_map spell_message q.messages) ++ flat_map spell_queue os = behind ∙ ap (λ (p : (ℕ × ℕ) × List ℕ). p.1) begins in
    let differs : nat_eq q.port port ≡ _ = ne_eqb q.port port (λ e. other (ap (λ (p : ℕ × ℕ). p.1) head-is ∙ e)) in
    record {
      passed = passed ++ q ∷ [];
      others = os;
      split = split ∙ sym (append_assoc passed (q ∷ []) os);
      count = omega arith;
      here = rest ∙ ap (λ (b : List ℕ). (cut_sized b).1) numbered-is
          ∙ ap (λ (p : List ℕ × List ℕ). p.1) (cut-sized-back (flat_map spell_message q.messages) (flat_map spell_queue os));
      skips = λ change.
          skips change
          ∙ ap (λ (b : Bool). passed ++ (if b then record { port = q.port; messages = change q.messages } ∷ os else q ∷ change_queue port change os)) differs
          ∙ sym (append_assoc passed (q ∷ []) (change_queue port change os));
    }

-- the next queue isn't of the port
pub stands-next : (port : ℕ) (qs : List Queue) (count turn : ℕ) (head : ℕ × ℕ) (bytes numbered after : List ℕ)
    → turn < count → head ≡ (read_pair bytes).0 → numbered ≡ (read_pair bytes).1 → after ≡ (cut_sized numbered).1
    → (head.1 ≡ port → ⊥)
    → StandsBehind port qs (count - turn) bytes → StandsBehind port qs (count - (turn + 1)) after
stands-next port qs count turn head bytes numbered after h is behind rest other s =
    next-of port qs s.passed s.others (count - (turn + 1)) head bytes numbered after s.split (s.count ∙ omega arith) s.here s.skips is behind rest other

-- queues of which one is this
spelled-split : (passed os : List Queue) (q : Queue) (n : ℕ)
    → length (passed ++ q ∷ os) ≡ n
    → spell_list spell_queue (passed ++ q ∷ os) ≡ (spell_long n ++ flat_map spell_queue passed) ++ (spell_queue q ++ flat_map spell_queue os)
unfolding spell_list
spelled-split passed os q n count =
    (λ i. spell_long (count i) ++ flat_map-append spell_queue passed (q ∷ os) i)
    ∙ sym (append_assoc (spell_long n) (flat_map spell_queue passed) (spell_queue q ++ flat_map spell_queue os))

found-of : (port : ℕ) (qs passed others : List Queue) (left : ℕ) (head : ℕ × ℕ) (bytes : List ℕ)
    → qs ≡ passed ++ others → length others ≡ suc left → bytes ≡ flat_map spell_queue others
    → ((change : List Message → List Message) → change_queue port change qs ≡ passed ++ change_queue port change others)
    → head ≡ (read_pair bytes).0 → head.1 ≡ port
    → AreAt port qs bytes
found-of port qs passed [] left head bytes split count here skips is same = absurd (omega arith)
found-of port qs passed (q ∷ os) left head bytes split count here skips is same =
    let named : q.port ≡ port = sym (ap (λ (p : ℕ × ℕ). p.1) (is ∙ ap (λ (b : List ℕ). (read_pair b).0) here ∙ ap (λ (p : (ℕ × ℕ) × List ℕ). p.0) (queue-begins q (flat_map spell_queue os)))) ∙ same in
    let front = spell_long (length (passed ++ q ∷ os)) ++ flat_map spell_queue passed in
    record {
      front = front;
      messages = q.messages;
      behind = flat_map spell_queue os;
      here = here ∙ ap (λ (p : ℕ). spell_queue (record { port = p; messages = q.messages }) ++ flat_map spell_queue os) named;
      whole = ap (spell_list spell_queue) split ∙ spelled-split passed os q (length (passed ++ q ∷ os)) refl ∙ ap (λ (b : List ℕ). front ++ b) (sym here);
      changed = λ change.
          let r : Queue = record { port = q.port; messages = change q.messages } in
          ap (spell_list spell_queue) (skips change ∙ ap (λ (b : Bool). passed ++ (if b then r ∷ os else q ∷ change_queue port change os)) (eq-eqb q.port port named))
          ∙ spelled-split passed os r (length (passed ++ q ∷ os)) (length-append passed (r ∷ os) ∙ sym (length-append passed (q ∷ os)))
          ∙ ap (λ (p : ℕ). front ++ (spell_queue (record { port = p; messages = change q.messages }) ++ flat_map spell_queue os)) named;
    }

-- the next queue is of the port
pub stands-found : (port : ℕ) (qs : List Queue) (count turn : ℕ) (head : ℕ × ℕ) (bytes : List ℕ)
    → turn < count → head ≡ (read_pair bytes).0 → head.1 ≡ port
    → StandsBehind port qs (count - turn) bytes → AreAt port qs bytes
stands-found port qs count turn head bytes h is same s =
    found-of port qs s.passed s.others (count - (turn + 1)) head bytes s.split (s.count ∙ omega arith) s.here s.skips is same

none-of : (port : ℕ) (qs passed others : List Queue) → qs ≡ passed ++ others → length others ≡ 0
    → ((change : List Message → List Message) → change_queue port change qs ≡ passed ++ change_queue port change others)
    → IsWithout port qs
none-of port qs passed [] split count skips = λ change. skips change ∙ sym split
none-of port qs passed (q ∷ os) split count skips = absurd (omega arith)

-- no queue is of the port
pub stands-none : (port : ℕ) (qs : List Queue) (count turn : ℕ) (bytes : List ℕ)
    → turn ≡ count → StandsBehind port qs (count - turn) bytes → IsWithout port qs
stands-none port qs count turn bytes h s = none-of port qs s.passed s.others s.split (s.count ∙ omega arith) s.skips

-- ---- changes

-- what stands behind the front is changed
changed-behind : (port : ℕ) (qs : List Queue) (queues start front new : List ℕ) (change : List Message → List Message)
    → queues ≡ spell_list spell_queue qs → (at : AreAt port qs start) → front ≡ since queues start
    → new ≡ spell_queue (record { port = port; messages = change at.messages }) ++ at.behind
    → front ++ new ≡ spell_list spell_queue (change_queue port change qs)
changed-behind port qs queues start front new change is at since-is new-is =
    (λ i. (since-is ∙ ap (λ (b : List ℕ). since b start) (is ∙ at.whole) ∙ since-back at.front start) i ++ new-is i) ∙ sym (at.changed change)

-- the bytes behind the head of a queue
module _ (port : ℕ) (messages : List Message) (behind start counted : List ℕ) (head : ℕ × ℕ)
    (is : start ≡ spell_queue (record { port = port; messages = messages }) ++ behind) (counts : head ≡ (read_pair start).0) (rest : counted ≡ (read_pair start).1) where
  head-read : read_pair start ≡ ((length messages, port), spell_sized (flat_map spell_message messages) ++ behind)
  head-read = ap read_pair is ∙ queue-begins (record { port = port; messages = messages }) behind

  count-is : head.0 ≡ length messages
  count-is = ap (λ (p : ℕ × ℕ). p.0) (counts ∙ ap (λ (p : (ℕ × ℕ) × List ℕ). p.0) head-read)

  messages-cut : cut_sized counted ≡ (flat_map spell_message messages, behind)
  messages-cut =
      ap cut_sized (rest ∙ ap (λ (p : (ℕ × ℕ) × List ℕ). p.1) head-read) ∙ cut-sized-back (flat_map spell_message messages) behind

gone-none : (messages : List Message) → length messages ≡ 0 → without_first messages ≡ messages
gone-none [] none = refl
gone-none (m ∷ ms) none = absurd (omega arith)

-- no message is there
pub first-gone-none : (port : ℕ) (qs : List Queue) (queues start counted bytes : List ℕ) (head : ℕ × ℕ)
    → queues ≡ spell_list spell_queue qs → AreAt port qs start → head ≡ (read_pair start).0 → counted ≡ (read_pair start).1 → head.0 ≡ 0 → bytes ≡ queues
    → bytes ≡ spell_list spell_queue (without_message port qs)
first-gone-none port qs queues start counted bytes head is at counts rest none e =
    let same = gone-none at.messages (sym (count-is port at.messages at.behind start counted head at.here counts rest) ∙ none) in
    e ∙ is ∙ at.whole ∙ ap (λ (b : List ℕ). at.front ++ b) (at.here ∙ ap (λ (ms : List Message). spell_queue (record { port = port; messages = ms }) ++ at.behind) (sym same))
    ∙ sym (at.changed without_first)

gone-some : (port : ℕ) (messages : List Message) (behind waiting left after : List ℕ) (count : ℕ)
    → count ≡ length messages → waiting ≡ flat_map spell_message messages → after ≡ behind
    → (count ≡ 0 → ⊥) → left ≡ (read_message waiting).1
    → spell_pair (count - 1) port ++ (spell_sized left ++ after) ≡ spell_queue (record { port = port; messages = without_first messages }) ++ behind
unfolding spell_queue
gone-some port [] behind waiting left after count count-is waiting-is after-is some passed = absurd (some count-is)
gone-some port (m ∷ ms) behind waiting left after count count-is waiting-is after-is some passed =
    let others = flat_map spell_message ms in
    let one-less : count - 1 ≡ length ms = omega arith in
    let left-is : left ≡ others =
    passed ∙ ap (λ (b : List ℕ). (read_message b).1) waiting-is ∙ ap (λ (p : Message × List ℕ). p.1) (message_back m others) in
    (λ i. spell_pair (one-less i) port ++ (spell_sized (left-is i) ++ after-is i))
    ∙ sym (append_assoc (spell_pair (length ms) port) (spell_sized others) behind)

-- the first message is gone
pub first-gone : (port : ℕ) (qs : List Queue) (queues start counted waiting left after front one two three four five : List ℕ) (head : ℕ × ℕ)
    → queues ≡ spell_list spell_queue qs → AreAt port qs start → front ≡ since queues start
    → head ≡ (read_pair start).0 → counted ≡ (read_pair start).1 → (head.0 ≡ 0 → ⊥)
    → waiting ≡ (cut_sized counted).0 → after ≡ (cut_sized counted).1 → left ≡ (read_message waiting).1
    → one ≡ [] → two ≡ one ++ front → three ≡ two ++ spell_pair (head.0 - 1) port → four ≡ three ++ spell_sized left → five ≡ four ++ after
    → five ≡ spell_list spell_queue (without_message port qs)
first-gone port qs queues start counted waiting left after front one two three four five head is at since-is counts rest some cut behind passed a b c d e =
    let all = messages-cut port at.messages at.behind start counted head at.here counts rest in
    let put : five ≡ ((front ++ spell_pair (head.0 - 1) port) ++ spell_sized left) ++ after = rw (e, d, c, b, a) refl in
    let regroup : ((front ++ spell_pair (head.0 - 1) port) ++ spell_sized left) ++ after ≡ front ++ (spell_pair (head.0 - 1) port ++ (spell_sized left ++ after)) = simp append_assoc in
    put ∙ regroup
    ∙ changed-behind port qs queues start front (spell_pair (head.0 - 1) port ++ (spell_sized left ++ after)) without_first is at since-is
    (gone-some port at.messages at.behind waiting left after head.0 (count-is port at.messages at.behind start counted head at.here counts rest)
    (cut ∙ ap (λ (p : List ℕ × List ℕ). p.0) all) (behind ∙ ap (λ (p : List ℕ × List ℕ). p.1) all) some passed)

came : (port : ℕ) (messages : List Message) (message : Message) (behind waiting sent after : List ℕ) (count more size : ℕ)
    → count ≡ length messages → waiting ≡ flat_map spell_message messages → after ≡ behind → more ≡ count + 1 → size ≡ length waiting + length sent → sent ≡ spell_message message
    → spell_pair more port ++ (spell_long size ++ (waiting ++ (sent ++ after))) ≡ spell_queue (record { port = port; messages = messages ++ message ∷ [] }) ++ behind
unfolding spell_queue spell_sized
came port messages message behind waiting sent after count more size count-is waiting-is after-is more-is size-is sent-is =
    let all = flat_map spell_message messages in
    let new = flat_map spell_message (messages ++ message ∷ []) in
    let m : more ≡ length (messages ++ message ∷ []) = more-is ∙ ap (λ k. k + 1) count-is ∙ sym (length-append messages (message ∷ [])) in
    let each : waiting ++ sent ≡ new =
    (λ i. waiting-is i ++ sent-is i) ∙ ap (λ (b : List ℕ). all ++ b) (sym (append-nil (spell_message message))) ∙ sym (flat_map-append spell_message messages (message ∷ [])) in
    let s : size ≡ length new = size-is ∙ sym (length-append waiting sent) ∙ ap length each in
    let head = spell_pair (length (messages ++ message ∷ [])) port in
    (λ i. spell_pair (m i) port ++ (spell_long (s i) ++ (waiting ++ (sent ++ after-is i))))
    ∙ ap (λ (b : List ℕ). head ++ (spell_long (length new) ++ b)) (sym (append_assoc waiting sent behind) ∙ ap (λ (b : List ℕ). b ++ behind) each)
    ∙ ap (λ (b : List ℕ). head ++ b) (sym (append_assoc (spell_long (length new)) new behind))
    ∙ sym (append_assoc head (spell_long (length new) ++ new) behind)

-- a message came
pub message-came : (port : ℕ) (message : Message) (qs : List Queue) (queues start counted waiting after front sent one two three four five six seven : List ℕ) (head : ℕ × ℕ) (more size : ℕ)
    → queues ≡ spell_list spell_queue qs → sent ≡ spell_message message → AreAt port qs start → front ≡ since queues start
    → head ≡ (read_pair start).0 → counted ≡ (read_pair start).1 → waiting ≡ (cut_sized counted).0 → after ≡ (cut_sized counted).1 → more ≡ head.0 + 1 → size ≡ length waiting + length sent
    → one ≡ [] → two ≡ one ++ front → three ≡ two ++ spell_pair more port → four ≡ three ++ spell_long size → five ≡ four ++ waiting → six ≡ five ++ sent → seven ≡ six ++ after
    → seven ≡ spell_list spell_queue (with_message port message qs)
message-came port message qs queues start counted waiting after front sent one two three four five six seven head more size is sent-is at since-is counts rest cut behind more-is size-is a b c d e f g =
    let all = messages-cut port at.messages at.behind start counted head at.here counts rest in
    let put : seven ≡ ((((front ++ spell_pair more port) ++ spell_long size) ++ waiting) ++ sent) ++ after = rw (g, f, e, d, c, b, a) refl in
    let regroup : ((((front ++ spell_pair more port) ++ spell_long size) ++ waiting) ++ sent) ++ after ≡ front ++ (spell_pair more port ++ (spell_long size ++ (waiting ++ (sent ++ after)))) = simp append_assoc in
    put ∙ regroup
    ∙ changed-behind port qs queues start front (spell_pair more port ++ (spell_long size ++ (waiting ++ (sent ++ after)))) (λ messages. messages ++ message ∷ []) is at since-is
    (came port at.messages message at.behind waiting sent after head.0 more size (count-is port at.messages at.behind start counted head at.here counts rest)
    (cut ∙ ap (λ (p : List ℕ × List ℕ). p.0) all) (behind ∙ ap (λ (p : List ℕ × List ℕ). p.1) all) more-is size-is sent-is)
