-- What each call uses, when it may be made, when it is refused, and what it leads to.
use Rattle.std.specs.Prelude.{ℕ, Bool, true, false, ◌&&◌, length, Some, None, Option, nat_lt}
use Rattle.fault.specs.declared.Fault.{Fault}
use Rattle.deque.specs.Refusals as refusals
use Rattle.calls.specs.declared.call.Edit.{Edit}
use Rattle.calls.specs.declared.call.Edit.TheVariants.{Load, Push, Pop, Swap, SwapRemove, MakeContiguous}
use Rattle.calls.specs.declared.call.Read.{Read}
use Rattle.calls.specs.declared.call.Read.TheVariants.{Get, AtEnd, Len, Capacity, IsEmpty, IsFull, Slices, Walk}
use Rattle.calls.specs.declared.call.Call.{Call}
use Rattle.calls.specs.declared.call.Call.TheVariants.{Edit as Edits, Test as Tests, Release as Releases, Retain, Read as Reads, IntoIter, Close}

-- what a history is at: a ring, the drain that the ring was moved into, or neither, once that is closed or finished
pub data Phase : Type 0 where
  ring drain closed : Phase

-- what may be asked of a drain
abbrev pub read_of_drain : Read → Bool
read_of_drain (Get index) = false
read_of_drain (AtEnd end) = false
read_of_drain Len = true
read_of_drain Capacity = false
read_of_drain IsEmpty = false
read_of_drain IsFull = false
read_of_drain Slices = false
read_of_drain (Walk ends) = false

module _ {T : Type 0} where
  abbrev pub edit_of_drain : Edit T → Bool
  edit_of_drain (Load items) = false
  edit_of_drain (Push end item) = false
  edit_of_drain (Pop end) = true
  edit_of_drain (Swap i j) = false
  edit_of_drain (SwapRemove end index) = false
  edit_of_drain MakeContiguous = false

  abbrev pub of_drain : Call T → Bool
  of_drain (Edits edit) = edit_of_drain edit
  of_drain (Tests test predicate) = false
  of_drain (Releases release bin) = false
  of_drain (Retain predicate bin) = false
  of_drain (Reads read) = read_of_drain read
  of_drain IntoIter = false
  of_drain (Close bin) = true

  -- a ring offers every call, a drain some, and a closed one none
  abbrev pub offers : Phase → Call T → Bool
  offers ring call = true
  offers drain call = of_drain call
  offers closed call = false

  -- the bin that a call sends items to
  abbrev pub bin_of : Call T → Option ℕ
  bin_of (Edits edit) = None
  bin_of (Tests test predicate) = None
  bin_of (Releases release bin) = Some bin
  bin_of (Retain predicate bin) = Some bin
  bin_of (Reads read) = None
  bin_of IntoIter = None
  bin_of (Close bin) = Some bin

  -- the predicate that a call shows items to
  abbrev pub predicate_of : Call T → Option ℕ
  predicate_of (Edits edit) = None
  predicate_of (Tests test predicate) = Some predicate
  predicate_of (Releases release bin) = None
  predicate_of (Retain predicate bin) = Some predicate
  predicate_of (Reads read) = None
  predicate_of IntoIter = None
  predicate_of (Close bin) = None

  -- the phase after an accepted call
  abbrev pub next_phase : Phase → Call T → Phase
  next_phase phase (Edits edit) = phase
  next_phase phase (Tests test predicate) = phase
  next_phase phase (Releases release bin) = phase
  next_phase phase (Retain predicate bin) = phase
  next_phase phase (Reads read) = phase
  next_phase phase IntoIter = drain
  next_phase phase (Close bin) = closed

  -- why a call is refused, if it is: from the capacity, the number of slots lent, and the length
  abbrev pub edit_refusal : Edit T → (capacity lent len : ℕ) → Option Fault
  edit_refusal (Load items) = refusals.load (length items.now)
  edit_refusal (Push end item) = refusals.push
  edit_refusal (Pop end) = refusals.slots
  edit_refusal (Swap i j) = refusals.swap i j
  edit_refusal (SwapRemove end index) = refusals.slots
  edit_refusal MakeContiguous = refusals.slots

  abbrev pub refusal : Call T → (capacity lent len : ℕ) → Option Fault
  refusal (Edits edit) = edit_refusal edit
  refusal (Tests test predicate) = refusals.slots
  refusal (Releases release bin) = refusals.slots
  refusal (Retain predicate bin) = refusals.slots
  refusal (Reads read) = refusals.slots
  refusal IntoIter = refusals.slots
  refusal (Close bin) = refusals.slots

  -- the item that a call brings, which its refusal gives back
  abbrev pub edit_brings : Edit T → Option T
  edit_brings (Load items) = None
  edit_brings (Push end item) = Some item
  edit_brings (Pop end) = None
  edit_brings (Swap i j) = None
  edit_brings (SwapRemove end index) = None
  edit_brings MakeContiguous = None

  abbrev pub brings : Call T → Option T
  brings (Edits edit) = edit_brings edit
  brings (Tests test predicate) = None
  brings (Releases release bin) = None
  brings (Retain predicate bin) = None
  brings (Reads read) = None
  brings IntoIter = None
  brings (Close bin) = None

-- what is named is one of so many
abbrev pub within : Option ℕ → ℕ → Bool
within None count = true
within (Some k) count = nat_lt k count

-- a request is made where its call is offered, and its bin and its predicate are there
abbrev pub made : {T : Type 0} → Phase → (bin_count predicate_count : ℕ) → Call T → Bool
made phase bin_count predicate_count call = offers phase call && within (bin_of call) bin_count && within (predicate_of call) predicate_count
