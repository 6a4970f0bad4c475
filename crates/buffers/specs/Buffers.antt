-- A buffer of pending stores, oldest first. Assumes nothing.
use Rattle.std.specs.Prelude.{Bool, true, false, Option, Some, None, ℕ, ◌+◌, ◌-◌, List, [], ◌∷◌, ◌++◌, leb, eqb, get_or, set, drop, take, replicate}
use Rattle.base.specs.Pick.{pick, through}
use Rattle.buffers.specs.declared.Store.{Store}
use Rattle.buffers.specs.declared.Spot.{Spot}
use Rattle.buffers.specs.declared.Entry.{Entry}
use Rattle.buffers.specs.declared.Buffer.{Buffer}
use Rattle.buffers.specs.Stores.{no_entry, hits_of}

-- "a FIFO buffer of at most 8 pending stores"
abbrev pub max_stores : ℕ
max_stores = 8

abbrev pub empty_buffer : Buffer
empty_buffer = record { entries = replicate max_stores no_entry; len = 0 }

-- the pending stores as a list, "oldest store first"; all entries where the length is out of range
abbrev pub pending_of : Buffer → List Entry
pending_of b = take b.len b.entries

-- what a push and a pop come to: taken, or refused with the buffer as it was
pub record Pushed : Type 0 where
  pub taken : Bool
  pub buffer : Buffer

pub record Popped : Type 0 where
  pub taken : Bool
  pub entry : Entry
  pub buffer : Buffer

-- "A write appends." Refused at `max_stores` pending, or more.
unfoldable pub push_of : Buffer → Entry → Pushed
push_of b e =
    pick (leb max_stores b.len)
    (record { taken = false; buffer = b })
    (record { taken = true; buffer = record { entries = set b.entries b.len e; len = b.len + 1 } })

-- "A commit applies one's oldest store", which leaves the buffer: the others move down, and "a step zeroes what it
-- stops using". Refused where none is pending.
unfoldable pub pop_of : Buffer → Popped
pop_of b =
    pick (eqb b.len 0)
    (record { taken = false; entry = no_entry; buffer = b })
    (record {
      taken = true;
      entry = get_or b.entries 0 no_entry;
      buffer = record { entries = drop 1 b.entries ++ (no_entry ∷ []); len = b.len - 1 };
    })

-- the code's answers as these records: `None` is a refusal, at the buffer b that it leaves as it was
abbrev pub pushed_as : Buffer → Option Buffer → Pushed
pushed_as b None = record { taken = false; buffer = b }
pushed_as b (Some n) = record { taken = true; buffer = n }

abbrev pub popped_as : Buffer → Option (Entry × Buffer) → Popped
popped_as b None = record { taken = false; entry = no_entry; buffer = b }
popped_as b (Some (e, n)) = record { taken = true; entry = e; buffer = n }

-- "the newest matching store": going from the oldest to the newest, the last that hits the spot counts
abbrev pub newer_of : Spot → Option Store → Entry → Option Store
newer_of at found e = pick (hits_of at e.store) (Some e.store) found

abbrev pub newest_of : Spot → List Entry → Option Store
newest_of at es = through (newer_of at) None es
