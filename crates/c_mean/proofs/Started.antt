-- What stands in the objects of a program when it begins.
use Rattle.std.proofs.Common.{◌≡◌, ℕ, suc, ◌+◌, ◌-◌, ◌<◌, List, [], ◌∷◌, ◌++◌, length, replicate, sym, ap, ◌∙◌}
use Rattle.std.proofs.Common.{arith, map}
use Rattle.std.proofs.lemmas.List.{length-map}
use Rattle.c_tree.specs.declared.typed.GlobalDef.{GlobalDef}
use Rattle.c_tree.specs.declared.typed.Literal.{Literal}
use Rattle.c_tree.specs.declared.typed.Typed.{Typed}
use Rattle.obj_mem.specs.Values as value
use Rattle.cheri_c_sem.specs.Calls.{add_globals, add_literals, all_bytes, fill_globals, fill_literals, link_globals}
use Rattle.cheri_c_sem.specs.Calls.{start, with_bytes, written}
use Rattle.cheri_c_sem.specs.Modes.{Store}
use Rattle.cheri_c_sem.specs.Operations.{Operations}
use Rattle.cheri_c_sem.specs.Programs.{global_tree, program_tree}
use Rattle.cheri_c_sem.specs.Tree.{Global}
use Rattle.cheri_c_sem.specs.Types.{size_in}

module _ (ops : Operations Store) where
  -- ---- bytes

  appended : (m : Store) (o at : ℕ) (xs ys : List ℕ)
      → with_bytes ops m o at (xs ++ ys) ≡ with_bytes ops (with_bytes ops m o at xs) o (at + length xs) ys
  appended m o at [] ys = let same : at ≡ at + 0 = omega arith in ap (λ k. with_bytes ops m o k ys) same
  appended m o at (x ∷ xs) ys =
      let next = written ops m o at 1 (value.Int x) in
      let same : suc at + length xs ≡ at + length (x ∷ xs) = omega arith in
      appended next o (suc at) xs ys ∙ ap (λ k. with_bytes ops (with_bytes ops next o (suc at) xs) o k ys) same

  pub zero_more : (held left : Store) (o at to : ℕ) → at < to → left ≡ written ops held o at 1 (value.Int 0)
      → with_bytes ops held o at (replicate (to - at) 0) ≡ with_bytes ops left o (at + 1) (replicate (to - (at + 1)) 0)
  zero_more held left o at to lt e =
      let long : to - at ≡ suc (to - (at + 1)) = omega arith in
      let next : suc at ≡ at + 1 = omega arith in
      let rest = replicate (to - (at + 1)) 0 in
      ap (λ n. with_bytes ops held o at (replicate n 0)) long ∙ ap (λ m. with_bytes ops m o (suc at) rest) (sym e)
      ∙ ap (λ k. with_bytes ops left o k rest) next

  pub filled : (p : Typed) (g : GlobalDef) (o size : ℕ) (bytes behind : List ℕ) (held first left : Store)
      → bytes ≡ g.bytes → behind ≡ g.bytes → size ≡ size_in p.types g.of → first ≡ with_bytes ops held o 0 bytes
      → left ≡ with_bytes ops first o (length behind) (replicate (size - length behind) 0)
      → left ≡ with_bytes ops held o 0 (all_bytes ops (global_tree p g))
  filled p g o size bytes behind held first left same same_too long e f =
      let zeros = replicate (size_in p.types g.of - length g.bytes) 0 in
      let at : length g.bytes ≡ 0 + length g.bytes = omega arith in
      f ∙ ap (λ (bs : List ℕ). with_bytes ops first o (length bs) (replicate (size - length bs) 0)) same_too
      ∙ ap (λ n. with_bytes ops first o (length g.bytes) (replicate (n - length g.bytes) 0)) long
      ∙ ap (λ m. with_bytes ops m o (length g.bytes) zeros) (e ∙ ap (with_bytes ops held o 0) same)
      ∙ ap (λ n. with_bytes ops (with_bytes ops held o 0 g.bytes) o n zeros) at ∙ sym (appended held o 0 g.bytes zeros)

  -- ---- all of it

  abbrev globals_of : Typed → List Global
  globals_of p = map (global_tree p) p.globals

  abbrev literals_of : Typed → List (List ℕ)
  literals_of p = map (λ (s : Literal). s.bytes) p.literals

  pub started : (p : Typed) (h0 h1 h2 h3 h4 h5 : Store) → h0 ≡ ops.empty → h1 ≡ add_globals ops h0 0 (globals_of p)
      → h2 ≡ add_literals ops h1 0 (literals_of p) → h3 ≡ fill_globals ops h2 0 (globals_of p)
      → h4 ≡ fill_literals ops h3 (length p.globals) (literals_of p) → h5 ≡ link_globals ops h4 0 (globals_of p)
      → h5 ≡ start ops (program_tree p)
  unfolding start program_tree
  started p h0 h1 h2 h3 h4 h5 e0 e1 e2 e3 e4 e5 =
      let count = sym (length-map p.globals (global_tree p)) in
      e5 ∙ ap (λ m. link_globals ops m 0 (globals_of p))
      (e4 ∙ ap (λ n. fill_literals ops h3 n (literals_of p)) count
      ∙ ap (λ m. fill_literals ops m (length (globals_of p)) (literals_of p))
      (e3 ∙ ap (λ m. fill_globals ops m 0 (globals_of p))
      (e2 ∙ ap (λ m. add_literals ops m 0 (literals_of p))
      (e1 ∙ ap (λ m. add_globals ops m 0 (globals_of p)) e0))))
