-- Code of a sound program, with homes that keep its temps and frames for its locals, is such as selection takes.
use Rattle.std.proofs.Common.{◌≡◌, ℕ, ◌+◌, ◌*◌, ◌^◌, ◌<◌, ◌≤◌, Bool, true, false, List, length, map, Some}
use Rattle.std.proofs.Common.{ap, ◌∙◌, arith}
use Rattle.std.specs.Prelude.{slice_get, if◌then◌else◌}
use Rattle.std.specs.List.{Contains}
use Rattle.std.proofs.lemmas.List.{length-map}
use Rattle.std.proofs.lemmas.Option.{slice_get_within, slice_get-get_or}
use Rattle.ck_int.specs.declared.kinds.IntKind.{IntKind}
use Rattle.ck_int.specs.declared.kinds.IntOp.{IntOp}
use Rattle.ck_int.specs.declared.kinds.IntOp.TheVariants as op
use Rattle.accepted_files.specs.Accepted.{weight_limit, IsLight}
use Rattle.typing_laws.proofs.Sound.{well_typed}
use Rattle.c_tree.specs.TreeWeight.{function_weight}
use Rattle.c_tree.specs.Typing.{Sound}
use Rattle.c_tree.specs.declared.typed.FunDef.{FunDef}
use Rattle.c_tree.specs.declared.typed.Typed.{Typed}
use Rattle.obj_mem.specs.Needs.{global_need, literal_need, local_needs, weight_by, weight_in}
use Rattle.obj_mem.specs.declared.map.Frame.{Frame}
use Rattle.cheri_c_sem.specs.Programs.{lengths_of}
use Rattle.placement.proofs.Lawful.{length_needed}
use Rattle.reg_alloc.specs.declared.places.Places.{Places}
use Rattle.bounds_place.specs.Placing.{exceeds}
use Rattle.tac_ir.specs.Costs.{function_cost}
use Rattle.tac_ir.specs.Within.{Within, WithinCosts}
use Rattle.tac_ir.specs.declared.code.LibOp.TheVariants as lib
use Rattle.tac_ir.specs.declared.code.Tac.{Tac}
use Rattle.tac_ir.specs.declared.code.TacFun.{TacFun}
use Rattle.tac_ir.specs.declared.code.TacInstr.{TacInstr}
use Rattle.tac_ir.specs.declared.code.TacInstr.TheVariants as instr
use Rattle.select_words.specs.Operations.{AtKind}
use Rattle.rv_emit.specs.Growing.{reach}
use Rattle.rv_select.specs.Objects.{HasObject}
use Rattle.rv_select.specs.Selectable.{AreSelectable, IsFormed, ReachesFirst, before}
use Rattle.rv_select.specs.Selected.{Before}
use Rattle.lower_forms.specs.Forms.{Has, HasForm, IsCounted, IsMade, IsShortCall, IsThere, IsWide}
use Rattle.typed_build.specs.Frames.{FrameFits, FramesFit, HaveHomes}
use Rattle.typed_build.specs.Programs.{AreKept}
use Rattle.typed_build.proofs.Framed.{same_lengths}
use Rattle.typed_build.proofs.Locals.{data_within, few_needs}
use Rattle.typed_build.proofs.Slots.{has_object}
use Rattle.typed_build.proofs.Texts.{there}
use Rattle.typed_build.proofs.Weighing.{few_functions}

pub has_of : (f : TacFun) (i : TacInstr) → Contains f.code i → Has f i
has_of f i c = (c.0, slice_get-get_or f.code c.0 i c.1 ∙ ap Some c.2)

pub at_kind : (k : IntKind) (o : IntOp) → IsWide k o → AtKind k o
at_kind k op.Add h = tt
at_kind k op.Sub h = tt
at_kind k op.Mul h = h
at_kind k op.Div h = h
at_kind k op.Rem h = h
at_kind k op.And h = h
at_kind k op.Or h = h
at_kind k op.Xor h = h
at_kind k op.Shl h = h
at_kind k op.Shr h = h

module _ (p : Typed) (sound : Sound p) (within : exceeds p ≡ false) (light : IsLight p) where
  -- the table's entries are within reach
  few : 16 * (length p.globals + length p.literals) ≤ 67108864
  few =
      let gs = map (global_need p.types) p.globals in
      let ls = map literal_need p.literals in
      omega (
        arith,
        data_within p within,
        few_needs gs,
        few_needs ls,
        length-map p.globals (global_need p.types),
        length-map p.literals literal_need,
      )

  many : 8 * length p.funs ≤ weight_limit
  many = few_functions p (well_typed p sound).ordered light.all

  global_near : (literal : Bool) (n : ℕ) → n < (if literal then length p.literals else length p.globals)
      → 16 * (if literal then length p.globals + n else n) < reach
  global_near true n h = omega (arith, few, h)
  global_near false n h = omega (arith, few, h)

  pub heap_small : (let b : Before = before p in b.heap) < 2 ^ 64
  heap_small = omega (arith, few, many)

  pub reaches_first : ReachesFirst p
  reaches_first =
      let w = (well_typed p sound).main in
      omega (arith, few, many, slice_get_within p.funs p.main w.main w.there)

  -- a function's jumps reach
  short : (t : Tac) → WithinCosts t p → length t.funs ≡ length p.funs → (k : ℕ) (f : TacFun) →
      slice_get t.funs k ≡ Some f → function_cost f < 262144
  short t within count k f e =
      let d = there p.funs k (omega (arith, slice_get_within t.funs k f e, count)) in
      let own : weight_in p k ≡ function_weight p d.0 = ap (weight_by p) d.1 in
      omega (arith, (within.functions k f e).cost, own, light.each.each k d.0 d.1)

  module _ (k : ℕ) (d : FunDef) (def : slice_get p.funs k ≡ Some d) (f : TacFun) (l : Places) (g : Frame)
      (fits : FrameFits p d f l g) where
    -- a local that is an object has a slot
    local_there : (var : ℕ) → var < length (lengths_of p d.vars) → HasObject g var
    local_there var lt =
        let same = same_lengths p sound k d def in
        let o = there (local_needs p.types d) var
        (omega (arith, lt, ap length same, length-map (local_needs p.types d) length_needed)) in
        has_object p d f l g fits var o.0 o.1

    formed_of : (i : TacInstr) → IsThere p d i → IsMade i → IsCounted i → IsShortCall i → IsFormed (before p) g i
    formed_of (instr.Const to kind v) n m c s = tt
    formed_of (instr.Copy to from) n m c s = tt
    formed_of (instr.Int o kind to a b) n m c s = at_kind kind o m
    formed_of (instr.Cmp o kind to a b) n m c s = tt
    formed_of (instr.Convert to from old new) n m c s = tt
    formed_of (instr.Cap o to a b) n m c s = tt
    formed_of (instr.Offset to base by) n m c s = tt
    formed_of (instr.Narrow to base long exact) n m c s = tt
    formed_of (instr.Load to from kind pos) n m c s = tt
    formed_of (instr.Store at v kind pos) n m c s = tt
    formed_of (instr.Local to var) n m c s = local_there var n
    formed_of (instr.Global to number literal) n m c s = global_near literal number n
    formed_of (instr.Function to fun) n m c s = omega (arith, few, many, n)
    formed_of (instr.Zero var) n m c s = local_there var n
    formed_of (instr.CopyUnits from to bytes unit from_pos to_pos) n m c s = c
    formed_of (instr.Label label) n m c s = tt
    formed_of (instr.Jump label) n m c s = tt
    formed_of (instr.Branch on when label) n m c s = tt
    formed_of (instr.Call to fun args) n m c s = (s, omega (arith, few, many, n))
    formed_of (instr.CallValue to v of args pos) n m c s = s
    formed_of (instr.Lib lib.PutChar to args) n m c s = tt
    formed_of (instr.Lib lib.GetChar to args) n m c s = tt
    formed_of (instr.Lib lib.Malloc to args) n m c s = (omega (arith, n), omega (arith, few, many))
    formed_of (instr.Lib lib.Exit to args) n m c s = tt
    formed_of instr.Turn n m c s = tt
    formed_of (instr.Return v) n m c s = tt

  pub are_selectable : (t : Tac) (places : List Places) (frames : List Frame) → HasForm p t → WithinCosts t p
      → length t.funs ≡ length p.funs → AreKept t.funs places → FramesFit p t.funs places frames
      → AreSelectable p t.funs places frames
  are_selectable t places frames form costs count keeps fits k f l g e a b =
      let d = there p.funs k (omega (arith, slice_get_within t.funs k f e, count)) in
      let named = form.named k d.0 f d.1 e in
      let kept = keeps k f l e a in
      record {
        short = short t costs count k f e;
        one_each = kept.one_each;
        named = λ i c. named.temps i (has_of f i c);
        params = named.params;
        usable = kept.usable;
        apart = kept.apart;
        passed = kept.passed;
        formed = λ i c.
            let here = has_of f i c in
            formed_of k d.0 d.1 f l g (fits k d.0 f l g d.1 e a b) i (named.there i here) (form.made k f e i here)
            (form.counted k f e i here) (form.short k f e i here);
      }

-- homes keep the temps of code that writes each before it reads it
pub are_kept : (p : Typed) (t : Tac) (places : List Places) → HasForm p t → length t.funs ≡ length p.funs → Within t p
    → HaveHomes t.funs places → AreKept t.funs places
are_kept p t places form count within homes k f l e a =
    let d = there p.funs k (omega (arith, slice_get_within t.funs k f e, count)) in
    (homes k f l e a).keeps (within.functions k f e).writes_first (form.named k d.0 f d.1 e).params
