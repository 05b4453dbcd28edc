-- What is appended for `malloc` has its form.
use Rattle.std.proofs.Common.{◌≡◌, ℕ, ◌*◌, ◌<◌, List, [], ◌∷◌, ◌++◌, Option}
use Rattle.std.proofs.Common.{refl, sym, ap, ◌∙◌, subst, arith}
use Rattle.rv_instr.specs.declared.instr.Instr.{Instr}
use Rattle.tac_ir.specs.declared.code.LibOp.{LibOp}
use Rattle.tac_ir.specs.declared.code.LibOp.TheVariants as lib
use Rattle.select_words.specs.Services.{Argument, KeepSome}
use Rattle.select_words.specs.Heap.{malloc_code, Mallocs}
use Rattle.rv_select.specs.declared.function.Function.{Function}
use Rattle.rv_select.specs.Choosing.{chosen, ChoosesFirst, ChoosesSome, ReachesHeap, ServiceWords}
use Rattle.rv_emit.specs.Growing.{Size, Puts, reach}
use Rattle.rv_emit.proofs.Appended.{puts_then}

module _ (f : Function) (to : Option ℕ) (old found made new : Size) (at : ℕ) where
  malloc_by : (args : List ℕ) → (16 * f.entries.heap < reach → at ≡ 16 * f.entries.heap)
      → Puts (Argument (chosen f) args) old found → (at < reach → made.text ≡ found.text ++ malloc_code at)
      → Puts (KeepSome (chosen f) to) made new → ReachesHeap f lib.Malloc args
      → Puts (ServiceWords (chosen f) lib.Malloc to args) old new
  malloc_by [] same p e q lt = absurd lt
  malloc_by (a ∷ rest) same p e q lt =
      let heap = 16 * f.entries.heap in
      let is = same lt in
      let low : at < reach = omega (arith, is, lt) in
      let Then : List Instr → Type 0 = λ ws. (keep : List Instr) × KeepSome (chosen f) to keep
      × (ws ≡ malloc_code heap ++ keep) in
      puts_then (Argument (chosen f) (a ∷ rest)) Then (Mallocs (chosen f) a to) old found new p
      (puts_then (λ ws. ws ≡ malloc_code heap) (KeepSome (chosen f) to) Then found made new
      (record { added = malloc_code heap; is = e low ∙ ap (λ y. found.text ++ malloc_code y) is; are = refl }) q
      (λ ws keep same kept. (keep, kept, ap (λ x. x ++ keep) same)))
      (λ finds rest found after. record {
        finds = finds;
        keep = after.0;
        found = found;
        kept = after.1;
        small = lt;
        are = ap (λ x. finds ++ x) after.2;
      })

  pub malloc_served : (op : LibOp) (args : List ℕ) → op ≡ lib.Malloc
      → (16 * f.entries.heap < reach → at ≡ 16 * f.entries.heap)
      → (ChoosesFirst f args → Puts (Argument (chosen f) args) old found)
      → (at < reach → made.text ≡ found.text ++ malloc_code at)
      → (ChoosesSome f to → Puts (KeepSome (chosen f) to) made new)
      → ReachesHeap f op args → ChoosesFirst f args → ChoosesSome f to
      → Puts (ServiceWords (chosen f) op to args) old new
  malloc_served op args is same p e q lt h g = subst (λ o. Puts (ServiceWords (chosen f) o to args) old new) (sym is)
      (malloc_by args same (p h) e (q g) (subst (λ o. ReachesHeap f o args) is lt))
