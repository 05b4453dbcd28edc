-- The frame of a function.
use Rattle.std.specs.Prelude.{ℕ, ◌≡◌, ◌+◌, ◌*◌, ◌%◌, ◌^◌, ◌<◌, ◌≤◌, List, length, map, sum_by, slice_get, Some}
use Rattle.std.specs.List.{All}
use Rattle.cap_layout.specs.declared.answers.Owned.{Owned}
use Rattle.reg_alloc.specs.declared.places.Home.{Home}
use Rattle.obj_mem.specs.declared.map.Frame.{Frame}
use Rattle.obj_mem.specs.declared.map.Slot.{Slot}
use Rattle.obj_mem.specs.Legal.{ObjectNeed, FunctionNeed, IsFrame, owned_of, alignment_of}
use Rattle.purecap_abi.specs.Saving.{saved_bytes}
use Rattle.purecap_abi.specs.Placing.{greatest_of}

-- ---- what is given

-- the owned length and the alignment of a local: a power of two, at least 16, which divides the length where it is
-- above 16, and then the local has bytes
pub record IsLocal (o : Owned) : Type 0 where
  pub power : (k : ℕ) × (o.align ≡ 2 ^ k)
  pub least : 16 ≤ o.align
  pub multiple : 16 < o.align → o.length % o.align ≡ 0
  pub some : 16 < o.align → 0 < o.length

abbrev pub room : Owned → ℕ
room o = o.length + o.align

-- locals for which there can be a frame
pub record AreLocals (locals : List Owned) : Type 0 where
  pub each : All IsLocal locals
  pub few : length locals < 2 ^ 32
  pub fit : sum_by room locals ≤ 67108864

-- ---- what is answered

-- what an object asks for
abbrev pub asked : ObjectNeed → Owned
asked n = record { length = owned_of n; align = alignment_of n }

-- a frame that a legal map may have, for each function with such locals whose weight allows the homes and the outgoing
-- arguments
abbrev pub IsLegalFrame : List Owned → (room : ℕ) → Frame → Type 0
IsLegalFrame locals room f = (n : FunctionNeed) → map asked n.locals ≡ locals → room ≤ 32 * n.weight → IsFrame n f

pub record HasFrame (locals : List Owned) (homes : List Home) (outgoing : ℕ) (f : Frame) : Type 0 where
  pub legal : IsLegalFrame locals (16 * length homes + 16 * outgoing) f
  pub align : f.align ≡ greatest_of locals
  pub saved : f.saved ≡ saved_bytes outgoing f.align homes
  pub least : 16 ≤ f.size
  pub most : f.size ≤ sum_by room locals + 16 * length homes + 16 * outgoing + 512
  -- slots stand in the order of their locals
  pub in_order : (var : ℕ) (s : Slot) → slice_get f.slots var ≡ Some s → s.var ≡ var
  -- and each begins in the frame
  pub inside : (var : ℕ) (s : Slot) → slice_get f.slots var ≡ Some s → s.at < f.size
