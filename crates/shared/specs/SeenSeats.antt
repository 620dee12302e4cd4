-- What the contracts of a table of first positions say of it and of its seats.
use Rattle.std.specs.Prelude.{◌≡◌, ℕ, ◌+◌, ◌-◌, Bool, true, List, [], replicate}
use Rattle.shared.specs.declared.seen.Seen.{Seen}
use Rattle.shared.specs.declared.seen.SeenSeat.{SeenSeat}
use Rattle.shared.specs.declared.seen.view.SeenView.{SeenView}
use Rattle.shared.specs.Classes.{classes_of}

-- what the seat knows
abbrev pub view : SeenSeat → SeenView
view seat = seat.seat.me.0

-- every seat that there may be was made and joined to this one
abbrev pub AllJoined : SeenView → Type 0
AllJoined v = v.parts + v.left ≡ v.seats

module _ {S : Type 0} where
  -- the items whose positions the table holds
  abbrev pub items_of : Seen S → List S
  items_of seen = seen.table.shared.key.items.now

  -- how many words the table has
  abbrev pub words_of : Seen S → ℕ
  words_of seen = seen.table.shared.key.words

  -- how many seats there may be
  abbrev pub seats_of : Seen S → ℕ
  seats_of seen = seen.table.shared.key.seats

  -- the view of the seat that `new` gives
  abbrev pub first_view_of : (S → S → Bool) → Seen S → SeenView
  first_view_of eq seen = record {
    classes = classes_of eq (items_of seen);
    words = words_of seen;
    seats = seats_of seen;
    first = true;
    left = seats_of seen - 1;
    parts = 1;
    steps = 0;
    known = replicate (words_of seen) 0;
    placed = [];
    answered = [];
  }

  -- the seat is one of this table
  abbrev pub IsSeatOf : (S → S → Bool) → Seen S → SeenSeat → Type 0
  IsSeatOf eq seen seat = (seat.seat.table_id ≡ seen.table.shared.table_id) × ((view seat).classes ≡ classes_of eq (items_of seen)) × ((view seat).words ≡ words_of seen) × ((view seat).seats ≡ seats_of seen)
