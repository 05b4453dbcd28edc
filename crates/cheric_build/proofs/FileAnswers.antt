-- What is built of a file's program is built of the file, and why its program is refused is why the file is.
use Rattle.std.proofs.Common.{◌≡◌, ℕ, List, Result, Ok, Err, subst, sym, inl, inr}
use Rattle.std.specs.Prelude.{IfOk, IfErr, OnOk}
use Rattle.ck_base.specs.declared.positions.Pos.{Pos}
use Rattle.ck_base.specs.declared.refusal.Refusal.{Refusal}
use Rattle.ck_base.specs.declared.refusal.Refusal.TheVariants.{Code, NoMemory}
use Rattle.c_tree.specs.declared.typed.Typed.{Typed}
use Rattle.c_tree.specs.File.{HasRoom}
use Rattle.accepted_files.specs.Accepted.{IsLight, Accepts, Refused, OneFile}
use Rattle.accepted_files.specs.Accepted as files
use Rattle.c_tree.specs.Typing.{Sound}
use Rattle.obj_mem.specs.declared.map.Map.{Map}
use Rattle.typing_laws.proofs.Sound.{well_typed}
use Rattle.cheric_build.specs.Front.{IsTyped, IsBroken}
use Rattle.typed_build.specs.Built.{start, IsBuilt, IsRefusal, ExceedsBy}
use Rattle.typed_build.specs.declared.building.Built.{Built}
use Rattle.typed_build.specs.Registers.{UsesRegisters}
use Rattle.cheric_build.specs.FromFile.{IsBuiltFrom, IsFileRefusal, IsMadeOf}
use Rattle.typed_build.proofs.SameBuilt.{built_same}

-- ---- what the front end refuses

pub broken_file : (file : List ℕ) (e : Refusal) → IsBroken file e → IsFileRefusal file e
broken_file file (Code code place) r = r.0
broken_file file NoMemory r = r

-- ---- a file that has this program, and one answer

module _ (file : List ℕ) (once : OneFile file) (p : Typed) (t : IsTyped file p) (s : Sound p) where
  pub accepted : HasRoom p → IsLight p → Accepts file p
  accepted room light = record {
    tokens = t.tokens;
    syntax = t.syntax;
    reads = t.reads;
    types = t.types;
    room = room;
    light = light;
  }

  pub no_room : (HasRoom p → ⊥) → Refused file 141 start
  no_room h = files.room t.tokens t.syntax p t.reads t.types h

  pub heavy : HasRoom p → (IsLight p → ⊥) → Refused file 142 start
  heavy room h = files.too_heavy t.tokens t.syntax p t.reads t.types room h

  each : (elf : List ℕ) (m : Map) (count : ℕ) → IsBuilt p elf m count → Accepts file p → (q : Typed) → Accepts file q →
      IsBuilt q elf m count
  each elf m count h a q b =
      let both = once.accepted p q a b in
      built_same p q both.program (well_typed p s) b.types.ordered both.first both.second elf m count h

  pub built_of : (r : Result Built Refusal) → IfOk r (λ b. IsBuilt p b.elf.items b.map b.count) →
      OnOk r (HasRoom p) → OnOk r (IsLight p) →
      IfOk r (λ b. IsBuiltFrom file b.elf.items b.map b.count)
  built_of (Ok b) h w light =
      let a = accepted w light in
      record { program = p; accepted = a; built = h; each = each b.elf.items b.map b.count h a }
  built_of (Err e) h w light = tt

  pub made_of : (r : Result Built Refusal) → IfOk r (λ b. UsesRegisters p b.code b.places.items b.elf.items b.map) →
      OnOk r (HasRoom p) → OnOk r (IsLight p) →
      IfOk r (λ b. IsMadeOf file b.code b.places.items b.elf.items b.map)
  made_of (Ok b) h w light = record { program = p; accepted = accepted w light; used = h }
  made_of (Err e) h w light = tt

  at : (code : ℕ) (place : Pos) → place ≡ start → Refused file code start → Refused file code place
  at code place e rule = subst (λ (q : Pos). Refused file code q) (sym e) rule

  refused_by : (code : ℕ) (place : Pos) → place ≡ start → ExceedsBy p code → IsFileRefusal file (Code code place)
  refused_by code place e (inl h) = at code place e (subst (λ (c : ℕ). Refused file c start) (sym h.0) (no_room h.1))
  refused_by code place e (inr h) = at code place e (subst (λ (c : ℕ). Refused file c start) (sym h.0) (heavy h.1 h.2))

  pub refused_of : (r : Result Built Refusal) → IfErr r (IsRefusal p) → IfErr r (IsFileRefusal file)
  refused_of (Ok b) h = tt
  refused_of (Err (Code code place)) h = refused_by code place h.0 h.1
  refused_of (Err NoMemory) h = t.reads.cut.short
