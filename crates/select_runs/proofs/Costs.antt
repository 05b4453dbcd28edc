-- What a call and an entry cost at most.
use Rattle.std.proofs.Common.{ℕ, zero, suc, ◌+◌, ◌-◌, ◌*◌, ◌≤◌, Bool, true, false, pos, List, [], ◌∷◌, ◌++◌, length}
use Rattle.std.proofs.Common.{sym, subst, arith, if◌then◌else◌}
use Rattle.std.specs.Prelude.{nat_lt}
use Rattle.std.proofs.Math.Nat.{mul-suc}
use Rattle.std.proofs.lemmas.List.{length-append}
use Rattle.rv_instr.specs.declared.instr.Instr.{Instr}
use Rattle.rv_instr.specs.declared.instr.Instr.TheVariants.{Store, Clc}
use Rattle.rv_instr.specs.declared.ops.StoreOp.TheVariants.{Csc}
use Rattle.obj_mem.specs.declared.map.Frame.{Frame}
use Rattle.reg_alloc.specs.declared.places.Home.{Home}
use Rattle.purecap_abi.specs.Ends.{prologue_code}
use Rattle.purecap_abi.specs.Words.{low, near_code, load_code, store_code}
use Rattle.purecap_abi.proofs.EndLaws.{prologue_most}
use Rattle.tac_ir.specs.Costs.{places_cost}
use Rattle.place_inject.specs.Frames.{Setting}
use Rattle.select_words.specs.Entries as entries
use Rattle.select_words.specs.Entries.{ForEach, StackWords, ParameterWords}
use Rattle.select_words.specs.Passing.{StackedWords, ArgumentWords}
use Rattle.select_runs.proofs.Simple.{operand_few}
use Rattle.select_runs.specs.Selecting.{selecting}

-- so many words for each
for_each_few : (Words : ℕ → List Instr → Type 0) (most : ℕ)
    → ((k : ℕ) (ws : List Instr) → Words k ws → length ws ≤ most) → (count k : ℕ) (ws : List Instr)
    → ForEach Words k count ws → length ws ≤ most * count
for_each_few Words most each zero k ws none = subst (λ y. length y ≤ most * 0) (sym none) (omega arith)
for_each_few Words most each (suc n) k ws form =
    let a = each k form.0 form.2 in let b = for_each_few Words most each n (k + 1) form.1 form.3 in
    let l = length-append form.0 form.1 in
    let size = mul-suc most n in
    subst (λ y. length y ≤ most * suc n) (sym form.4) (omega (arith, a, b, l, size))

far_stores : (from base offset scratch : ℕ) → length (store_code from base offset scratch) ≤ 3
far_stores from base offset scratch = by (nat_lt offset 2048)
  where
    by : (b : Bool) → length (if b then Store Csc from base (pos offset) ∷ []
        else near_code scratch base offset ++ Store Csc from scratch (low offset) ∷ []) ≤ 3
    by true = omega arith
    by false = omega arith

far_loads : (to base offset scratch : ℕ) → length (load_code to base offset scratch) ≤ 3
far_loads to base offset scratch = by (nat_lt offset 2048)
  where
    by : (b : Bool) → length (if b then Clc to base (pos offset) ∷ []
        else near_code scratch base offset ++ Clc to scratch (low offset) ∷ []) ≤ 3
    by true = omega arith
    by false = omega arith

module _ (s : Setting) (fun : ℕ) where
  stacked_few : (args : List ℕ) (k : ℕ) (ws : List Instr) → StackedWords (selecting s fun) args k ws → length ws ≤ 6
  stacked_few args k ws f =
      let a = operand_few s fun f.temp 28 f.finds f.r f.found in
      let b = far_stores f.r 2 (entries.stack_place k) 29 in
      let l = length-append f.finds (store_code f.r 2 (entries.stack_place k) 29) in
      subst (λ y. length y ≤ 6) (sym f.are) (omega (arith, a, b, l))

  pub arguments_few : (args : List ℕ) (ws : List Instr) → ArgumentWords (selecting s fun) args ws
      → length ws ≤ places_cost (length args)
  arguments_few args ws f =
      let a = for_each_few (StackedWords (selecting s fun) args) 6 (stacked_few args)
      (length args - 8) 8 f.stores f.stacked in
      let b = f.few in let l = length-append f.stores (f.moves ++ f.brings) in let d = length-append f.moves f.brings in
      subst (λ y. length y ≤ places_cost (length args)) (sym f.are) (omega (arith, a, b, l, d))

  loaded_few : (k : ℕ) (ws : List Instr) → StackWords (selecting s fun) k ws → length ws ≤ 6
  loaded_few k ws (entries.Loaded r i e) =
      let a = far_loads r 28 (entries.stack_place k) 29 in
      subst (λ y. length y ≤ 6) (sym e) (omega (arith, a))
  loaded_few k ws (entries.Spilled offset i e) =
      let a = far_loads 30 28 (entries.stack_place k) 29 in let b = far_stores 30 2 offset 31 in
      let l = length-append (load_code 30 28 (entries.stack_place k) 29) (store_code 30 2 offset 31) in
      subst (λ y. length y ≤ 6) (sym e) (omega (arith, a, b, l))

  pub parameters_few : (count : ℕ) (ws : List Instr) → ParameterWords (selecting s fun) count ws →
      length ws ≤ places_cost count
  parameters_few count ws f =
      let a = for_each_few (StackWords (selecting s fun)) 6 loaded_few (count - 8) 8 f.loads f.loaded in
      let b = f.few in let l = length-append f.stores (f.moves ++ f.loads) in let d = length-append f.moves f.loads in
      subst (λ y. length y ≤ places_cost count) (sym f.are) (omega (arith, a, b, l, d))

-- what a function begins with
pub begins_few : (s : Setting) (fun : ℕ) (homes : List Home) (f : Frame) (count : ℕ) (ws : List Instr)
    → ParameterWords (selecting s fun) count ws → length (prologue_code homes f ++ ws) ≤ 27 + places_cost count
begins_few s fun homes f count ws form =
    let a = (prologue_most homes f).few in let b = parameters_few s fun count ws form in
    let l = length-append (prologue_code homes f) ws in omega (arith, a, b, l)
