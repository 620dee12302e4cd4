-- Two steps of different components lead to the same in both orders, where they are apart.
use Rattle.std.proofs.Common.{◌≡◌, ℕ, zero, suc, Bool, true, false, if◌then◌else◌, List, [], ◌∷◌, ◌++◌, map, Option, Some, None, refl, sym, ap, subst, ◌∙◌, ◌⊎◌, inl, inr, ◌≢◌}
use Rattle.std.proofs.Math.Dec.{eqb}
use Rattle.std.proofs.lemmas.Bool.{eqb-true}
use Rattle.std.proofs.lemmas.Bool.Decides.{eqb_tells}
use Rattle.std.specs.Prelude.{slice_get}
use Rattle.config_packed.specs.Pieces.{first_message, front_at, with_verdict_and_own}
use Rattle.config_packed.specs.Spelling.{name_of}
use Rattle.config_parts.specs.internal.Changes.{change_queue, changed_at, is_of_port, with_message, with_queues, without_first, without_message}
use Rattle.config_parts.specs.declared.component.Component.{Component}
use Rattle.config_parts.specs.declared.component.Message.{Message}
use Rattle.config_parts.specs.declared.component.Queue.{Queue}
use Rattle.config_parts.specs.declared.config.Going.{Going}
use Rattle.config_parts.specs.declared.frame.Data.{Data}
use Rattle.ttcn_syntax.specs.declared.tree.statement.Verdict.{Verdict}
use Rattle.ttcnx_runs.proofs.SeenAlike.{changed-found, changed-other}
use Rattle.ttcnx_runs.specs.Remembered.{without_front}
use Rattle.ttcnx_runs.specs.internal.Apart.{AreApart, AreForTwo}
use Rattle.ttcnx_runs.specs.declared.outcome.Effect.{Effect}
use Rattle.ttcnx_runs.specs.declared.outcome.Effect.TheVariants as effect
use Rattle.ttcnx_runs.specs.declared.outcome.Sending.{Sending}

some-is : {A : Type 0} {a b : A} → Some a ≡ Some b → a ≡ b
some-is e = cc

-- ---- what steps change

-- a component with another verdict and other data, and without the first message of a port, where a port is named
abbrev pub with_front_gone : Verdict × Data → Option ℕ → Component → Component
with_front_gone own removed c = record { itself = c.itself; own = own.1; state = c.state; verdict = own.0; queues = without_front removed c.queues }

-- a component to which a message comes
abbrev pub with_arrival : Sending → Component → Component
with_arrival sending = with_queues (with_message sending.port sending.message)

-- the components behind a step of the one at a place, where the step changes that one alone or sends a message
abbrev pub components_behind : Effect → ℕ → List Component → List Component
components_behind (effect.Alone own removed) at cs = changed_at cs at (with_front_gone own removed)
components_behind (effect.Sends own sending) at cs = changed_at (changed_at cs at (with_verdict_and_own own.0 own.1)) sending.to (with_arrival sending)
components_behind (effect.Ends behind) at cs = cs
components_behind (effect.Other label) at cs = cs

-- the configuration behind such a step
abbrev pub going_behind : Effect → ℕ → Going → Going
going_behind e at going = record { components = components_behind e at going.components; links = going.links; forgotten = going.forgotten }

-- ---- changes of lists

-- changes at two places
apart : {A : Type 0} (xs : List A) (i j : ℕ) (f h : A → A) → (i ≡ j → ⊥) → changed_at (changed_at xs i f) j h ≡ changed_at (changed_at xs j h) i f
apart [] i j f h other = refl
apart (x ∷ xs) zero zero f h other = absurd (other refl)
apart (x ∷ xs) zero (suc j) f h other = refl
apart (x ∷ xs) (suc i) zero f h other = refl
apart (x ∷ xs) (suc i) (suc j) f h other = ap (λ ys. x ∷ ys) (apart xs i j f h (λ same. other (ap suc same)))

-- changes of which each leaves what the other one changes
swapped : {A : Type 0} (xs : List A) (i j : ℕ) (f h : A → A) → ((x : A) → h (f x) ≡ f (h x)) → changed_at (changed_at xs i f) j h ≡ changed_at (changed_at xs j h) i f
swapped [] i j f h each = refl
swapped (x ∷ xs) zero zero f h each = ap (λ y. y ∷ xs) (each x)
swapped (x ∷ xs) zero (suc j) f h each = refl
swapped (x ∷ xs) (suc i) zero f h each = refl
swapped (x ∷ xs) (suc i) (suc j) f h each = ap (λ ys. x ∷ ys) (swapped xs i j f h each)

-- two changes at one place
swapped-there : {A : Type 0} (xs : List A) (i : ℕ) (f h : A → A) (x : A) → slice_get xs i ≡ Some x → h (f x) ≡ f (h x) → changed_at (changed_at xs i f) i h ≡ changed_at (changed_at xs i h) i f
swapped-there [] i f h x found same = refl
swapped-there (y ∷ ys) zero f h x found same = ap (λ z. z ∷ ys) (subst (λ z. h (f z) ≡ f (h z)) (sym (some-is found)) same)
swapped-there (y ∷ ys) (suc i) f h x found same = ap (λ zs. y ∷ zs) (swapped-there ys i f h x found same)

-- what a change leaves of each
left-of-each : {A B : Type 0} (seen : A → B) (xs : List A) (i : ℕ) (f : A → A) → ((x : A) → seen (f x) ≡ seen x) → map seen (changed_at xs i f) ≡ map seen xs
left-of-each seen [] i f each = refl
left-of-each seen (x ∷ xs) zero f each = ap (λ y. y ∷ map seen xs) (each x)
left-of-each seen (x ∷ xs) (suc i) f each = ap (λ ys. seen x ∷ ys) (left-of-each seen xs i f each)

-- ---- queues

-- a queue whose messages are changed
abbrev with_messages : (List Message → List Message) → Queue → Queue
with_messages change q = record { port = q.port; messages = change q.messages }

here : (port : ℕ) (change : List Message → List Message) (q : Queue) (qs : List Queue) → is_of_port port q ≡ true → change_queue port change (q ∷ qs) ≡ with_messages change q ∷ qs
here port change q qs is = ap (λ (b : Bool). if b then with_messages change q ∷ qs else q ∷ change_queue port change qs) is

past : (port : ℕ) (change : List Message → List Message) (q : Queue) (qs : List Queue) → is_of_port port q ≡ false → change_queue port change (q ∷ qs) ≡ q ∷ change_queue port change qs
past port change q qs is = ap (λ (b : Bool). if b then with_messages change q ∷ qs else q ∷ change_queue port change qs) is

module _ (p r : ℕ) (f h : List Message → List Message) where
  -- both orders of a change of the messages of one port, and one of the messages of another one, lead to the same
  abbrev Swap : List Queue → Type 0
  Swap qs = change_queue r h (change_queue p f qs) ≡ change_queue p f (change_queue r h qs)

  one-more : (q : Queue) (qs : List Queue) (of_p of_r : Bool) → is_of_port p q ≡ of_p → is_of_port r q ≡ of_r
      → (is_of_port p q ≡ true → is_of_port r q ≡ true → h (f q.messages) ≡ f (h q.messages)) → (is_of_port p q ≡ false → Swap qs) → Swap (q ∷ qs)
  one-more q qs true true at_p at_r both rest =
      ap (change_queue r h) (here p f q qs at_p) ∙ here r h (with_messages f q) qs at_r
      ∙ ap (λ ms. record { port = q.port; messages = ms } ∷ qs) (both at_p at_r)
      ∙ sym (ap (change_queue p f) (here r h q qs at_r) ∙ here p f (with_messages h q) qs at_p)
  one-more q qs true false at_p at_r both rest =
      ap (change_queue r h) (here p f q qs at_p) ∙ past r h (with_messages f q) qs at_r
      ∙ sym (ap (change_queue p f) (past r h q qs at_r) ∙ here p f q (change_queue r h qs) at_p)
  one-more q qs false true at_p at_r both rest =
      ap (change_queue r h) (past p f q qs at_p) ∙ here r h q (change_queue p f qs) at_r
      ∙ sym (ap (change_queue p f) (here r h q qs at_r) ∙ past p f (with_messages h q) qs at_p)
  one-more q qs false false at_p at_r both rest =
      ap (change_queue r h) (past p f q qs at_p) ∙ past r h q (change_queue p f qs) at_r
      ∙ ap (λ zs. q ∷ zs) (rest at_p)
      ∙ sym (ap (change_queue p f) (past r h q qs at_r) ∙ past p f q (change_queue r h qs) at_p)

-- changes of two ports
two-ports : (p r : ℕ) (f h : List Message → List Message) → (p ≡ r → ⊥) → (qs : List Queue) → Swap p r f h qs
two-ports p r f h other [] = refl
two-ports p r f h other (q ∷ qs) =
    one-more p r f h q qs (is_of_port p q) (is_of_port r q) refl refl
    (λ at_p at_r. absurd (other (sym (eqb-true q.port p at_p) ∙ eqb-true q.port r at_r))) (λ past_p. two-ports p r f h other qs)

-- a message that comes behind others leaves the one in front
first-gone : (ms : List Message) (m : Message) → first_message (ms ++ m ∷ []) ≡ first_message ms → without_first (ms ++ m ∷ []) ≡ without_first ms ++ m ∷ []
first-gone [] m same = absurd (let no = same in cc)
first-gone (x ∷ ms) m same = refl

head-is : {A : Type 0} {x y : A} {xs ys : List A} → x ∷ xs ≡ y ∷ ys → x ≡ y
head-is e = cc

tail-is : {A : Type 0} {x y : A} {xs ys : List A} → x ∷ xs ≡ y ∷ ys → xs ≡ ys
tail-is e = cc

-- a message that comes, and the first message of a port that goes, where the messages in front stay
comes-and-goes : (p r : ℕ) (m : Message) (qs : List Queue) → map front_at (with_message p m qs) ≡ map front_at qs → without_message r (with_message p m qs) ≡ with_message p m (without_message r qs)
comes-and-goes p r m [] same = refl
comes-and-goes p r m (q ∷ qs) same =
    one-more p r (λ ms. ms ++ m ∷ []) without_first q qs (is_of_port p q) (is_of_port r q) refl refl
    (λ at_p at_r. first-gone q.messages m (ap (λ (front : ℕ × Option Message). front.1) (head-is (sym (ap (map front_at) (here p (λ ms. ms ++ m ∷ []) q qs at_p)) ∙ same))))
    (λ past_p. comes-and-goes p r m qs (tail-is (sym (ap (map front_at) (past p (λ ms. ms ++ m ∷ []) q qs past_p)) ∙ same)))

comes-and-goes-where-named : (sending : Sending) (removed : Option ℕ) (qs : List Queue) → map front_at (with_message sending.port sending.message qs) ≡ map front_at qs
    → without_front removed (with_message sending.port sending.message qs) ≡ with_message sending.port sending.message (without_front removed qs)
comes-and-goes-where-named sending None qs same = refl
comes-and-goes-where-named sending (Some port) qs same = comes-and-goes sending.port port sending.message qs same

-- ---- two steps

-- whether two numbers are the same
same-or-not : (m n : ℕ) → (m ≡ n) ⊎ (m ≡ n → ⊥)
same-or-not m n = told (eqb_tells m n)
  where
    told : ((eqb m n ≡ true) × (m ≡ n)) ⊎ ((eqb m n ≡ false) × (m ≢ n)) → (m ≡ n) ⊎ (m ≡ n → ⊥)
    told (inl same) = inl same.1
    told (inr other) = inr other.1

abbrev sender : Verdict × Data → Component → Component
sender own = with_verdict_and_own own.0 own.1

-- two messages to different queues
two-arrivals : (cs : List Component) (one other : Sending) → AreForTwo one other
    → changed_at (changed_at cs one.to (with_arrival one)) other.to (with_arrival other) ≡ changed_at (changed_at cs other.to (with_arrival other)) one.to (with_arrival one)
two-arrivals cs one other (inl places) = apart cs one.to other.to (with_arrival one) (with_arrival other) places
two-arrivals cs one other (inr ports) =
    swapped cs one.to other.to (with_arrival one) (with_arrival other)
    (λ c. ap (λ qs. record c { queues = qs }) (two-ports one.port other.port (λ ms. ms ++ one.message ∷ []) (λ ms. ms ++ other.message ∷ []) ports c.queues))

-- the second component sees the same before and behind the first step
pub record LeavesSight (cs : List Component) (at : ℕ) (e : Effect) (place : ℕ) : Type 0 where
  pub before : Component
  pub behind : Component
  pub here : slice_get cs place ≡ Some before
  pub there : slice_get (components_behind e at cs) place ≡ Some behind
  pub fronts : map front_at before.queues ≡ map front_at behind.queues

-- a message to the second component, and a step that changes that one alone
arrival-and-alone : (cs : List Component) (at : ℕ) (own : Verdict × Data) (sending : Sending) (place : ℕ) (own′ : Verdict × Data) (removed : Option ℕ) → (at ≡ place → ⊥)
    → LeavesSight cs at (effect.Sends own sending) place → (sending.to ≡ place) ⊎ (sending.to ≡ place → ⊥)
    → changed_at (changed_at (changed_at cs at (sender own)) sending.to (with_arrival sending)) place (with_front_gone own′ removed)
    ≡ changed_at (changed_at (changed_at cs at (sender own)) place (with_front_gone own′ removed)) sending.to (with_arrival sending)
arrival-and-alone cs at own sending place own′ removed other sight (inr elsewhere) = apart (changed_at cs at (sender own)) sending.to place (with_arrival sending) (with_front_gone own′ removed) elsewhere
arrival-and-alone cs at own sending place own′ removed other sight (inl same) =
    let c : Component = sight.before in
    let found : slice_get (changed_at cs at (sender own)) place ≡ Some c = changed-other cs at place (sender own) other ∙ sight.here in
    let came : sight.behind ≡ with_arrival sending c =
    some-is (sym sight.there ∙ ap (λ (to : ℕ). slice_get (changed_at (changed_at cs at (sender own)) to (with_arrival sending)) place) same ∙ changed-found (changed_at cs at (sender own)) place (with_arrival sending) c found) in
    let fronts : map front_at (with_message sending.port sending.message c.queues) ≡ map front_at c.queues = sym (sight.fronts ∙ ap (λ (d : Component). map front_at d.queues) came) in
    subst (λ (to : ℕ). changed_at (changed_at (changed_at cs at (sender own)) to (with_arrival sending)) place (with_front_gone own′ removed)
    ≡ changed_at (changed_at (changed_at cs at (sender own)) place (with_front_gone own′ removed)) to (with_arrival sending)) (sym same)
    (swapped-there (changed_at cs at (sender own)) place (with_arrival sending) (with_front_gone own′ removed) c found
    (ap (λ qs. record { itself = c.itself; own = own′.1; state = c.state; verdict = own′.0; queues = qs }) (comes-and-goes-where-named sending removed c.queues fronts)))

-- steps of two components lead to the same in both orders
pub both-orders : (cs : List Component) (i j : ℕ) (a b : Effect) → (i ≡ j → ⊥) → AreApart i a b → LeavesSight cs i a j
    → components_behind b j (components_behind a i cs) ≡ components_behind a i (components_behind b j cs)
both-orders cs i j (effect.Alone own removed) (effect.Alone own′ removed′) other are sight = apart cs i j (with_front_gone own removed) (with_front_gone own′ removed′) other
both-orders cs i j (effect.Alone own removed) (effect.Sends own′ sending′) other are sight =
    ap (λ xs. changed_at xs sending′.to (with_arrival sending′)) (apart cs i j (with_front_gone own removed) (sender own′) other)
    ∙ apart (changed_at cs j (sender own′)) i sending′.to (with_front_gone own removed) (with_arrival sending′) (λ same. are (sym same))
both-orders cs i j (effect.Sends own sending) (effect.Alone own′ removed′) other are sight =
    arrival-and-alone cs i own sending j own′ removed′ other sight (same-or-not sending.to j)
    ∙ ap (λ xs. changed_at xs sending.to (with_arrival sending)) (apart cs i j (sender own) (with_front_gone own′ removed′) other)
both-orders cs i j (effect.Sends own sending) (effect.Sends own′ sending′) other are sight =
    let s : List Component = changed_at cs i (sender own) in
    let t : List Component = changed_at cs j (sender own′) in
    ap (λ xs. changed_at xs sending′.to (with_arrival sending′)) (swapped s sending.to j (with_arrival sending) (sender own′) (λ c. refl))
    ∙ two-arrivals (changed_at s j (sender own′)) sending sending′ are.1
    ∙ ap (λ xs. changed_at (changed_at xs sending′.to (with_arrival sending′)) sending.to (with_arrival sending)) (apart cs i j (sender own) (sender own′) other)
    ∙ ap (λ xs. changed_at xs sending.to (with_arrival sending)) (swapped t i sending′.to (sender own) (with_arrival sending′) (λ c. refl))
both-orders cs i j (effect.Alone own removed) (effect.Ends behind) other are sight = absurd are
both-orders cs i j (effect.Alone own removed) (effect.Other label) other are sight = absurd are
both-orders cs i j (effect.Sends own sending) (effect.Ends behind) other are sight = absurd are
both-orders cs i j (effect.Sends own sending) (effect.Other label) other are sight = absurd are
both-orders cs i j (effect.Ends behind) b other are sight = absurd are
both-orders cs i j (effect.Other label) b other are sight = absurd are

-- ---- what all see, and what the first component sees

-- a step leaves the names and states of all components
pub names-left : (e : Effect) (at : ℕ) (cs : List Component) → map name_of (components_behind e at cs) ≡ map name_of cs
names-left (effect.Alone own removed) at cs = left-of-each name_of cs at (with_front_gone own removed) (λ c. refl)
names-left (effect.Sends own sending) at cs =
    left-of-each name_of (changed_at cs at (sender own)) sending.to (with_arrival sending) (λ c. refl) ∙ left-of-each name_of cs at (sender own) (λ c. refl)
names-left (effect.Ends behind) at cs = refl
names-left (effect.Other label) at cs = refl

-- the second step leaves the first component
pub left-alone : (cs : List Component) (i j : ℕ) (a b : Effect) → (i ≡ j → ⊥) → AreApart i a b → slice_get (components_behind b j cs) i ≡ slice_get cs i
left-alone cs i j a (effect.Alone own removed) other are = changed-other cs j i (with_front_gone own removed) (λ same. other (sym same))
left-alone cs i j (effect.Alone own removed) (effect.Sends own′ sending′) other are =
    changed-other (changed_at cs j (sender own′)) sending′.to i (with_arrival sending′) are ∙ changed-other cs j i (sender own′) (λ same. other (sym same))
left-alone cs i j (effect.Sends own sending) (effect.Sends own′ sending′) other are =
    changed-other (changed_at cs j (sender own′)) sending′.to i (with_arrival sending′) are.0 ∙ changed-other cs j i (sender own′) (λ same. other (sym same))
left-alone cs i j (effect.Ends behind) (effect.Sends own′ sending′) other are = absurd are
left-alone cs i j (effect.Other label) (effect.Sends own′ sending′) other are = absurd are
left-alone cs i j a (effect.Ends behind) other are = refl
left-alone cs i j a (effect.Other label) other are = refl
