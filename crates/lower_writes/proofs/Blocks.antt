-- A block's entry writes the homes of its variables, and the pointers to its objects.
use Rattle.std.proofs.Common.{◌≡◌, ℕ, Bool, true, false, List, ◌∷◌, Some}
use Rattle.std.proofs.Common.{inl, inr, refl, ap, subst, sym, arith, ◌∙◌}
use Rattle.std.specs.Prelude.{◌==◌, if◌then◌else◌}
use Rattle.std.proofs.lemmas.Bool.Decides.{nat_tests}
use Rattle.std.proofs.lemmas.Option.{same_Some}
use Rattle.cheri_c_sem.specs.Tree.{Declared, Simple, Objects}
use Rattle.tac_ir.specs.Temps.{behind}
use Rattle.tac_ir.specs.declared.code.TacInstr.{TacInstr}
use Rattle.tac_ir.specs.declared.code.TacInstr.TheVariants as instr
use Rattle.lower_runs.specs.Operating.{Code}
use Rattle.lower_runs.specs.Expressions.{Mark}
use Rattle.lower_runs.specs.Statements.{Exits, IsEntered, with_spot}
use Rattle.lower_runs.specs.Statements as code
use Rattle.lower_runs.specs.States.{Home, Scene}
use Rattle.lower_writes.specs.Naming.{IsDeclared, within_block}
use Rattle.lower_writes.proofs.Waiting.{Have, Only, only_more, step}
use Rattle.lower_writes.proofs.Pieces.{Covers, covers_more}
use Rattle.lower_writes.proofs.Parts.{Part, stands_in, leads_more}

-- behind some code, more has been written
pub record Written (params : ℕ) (whole : List TacInstr) (h : Scene) (ds : List Declared) (ws : List ℕ) (c : Code) :
    Type 0 where
  pub now : List ℕ
  pub more : (t : ℕ) → Have params ws t → Have params now t
  pub covers : Covers params h ds now
  pub only : (often : ℕ) (r : List TacInstr) → Only params whole often now r → Only params whole often ws (c r)

same_simple : (x y : ℕ) → Simple x ≡ Simple y → x ≡ y
same_simple x y e = cc

same_object : (x y : ℕ) → Objects x ≡ Objects y → x ≡ y
same_object x y e = cc

-- a variable with a home that has been written
pub covers_home : (params : ℕ) (g : Scene) (ds : List Declared) (ws : List ℕ) (x : ℕ) →
    ((h : Home) → g.home x ≡ Some h → Have params ws h.temp) → Covers params g ds ws →
    Covers params g (Simple x ∷ ds) ws
covers_home params g ds ws x has k = record {
  home = λ y h d e. by y h d e;
  spot = λ o t d e. other o t d e;
}
  where
    by : (y : ℕ) (h : Home) → IsDeclared (Simple x ∷ ds) (Simple y) → g.home y ≡ Some h → Have params ws h.temp
    by y h (inl same) e = let q : x ≡ y = same_simple x y same in has h (ap g.home q ∙ e)
    by y h (inr d) e = k.home y h d e

    other : (o t : ℕ) → IsDeclared (Simple x ∷ ds) (Objects o) → g.spot o ≡ Some t → Have params ws t
    other o t (inl same) e = absurd cc
    other o t (inr d) e = k.spot o t d e

-- an object whose pointer is written
pub covers_spot : (params : ℕ) (g : Scene) (ds : List Declared) (ws : List ℕ) (n t : ℕ) →
    Have params ws t → Covers params g ds ws → Covers params (with_spot n t g) (Objects n ∷ ds) ws
covers_spot params g ds ws n t has k = record {
  home = λ y h d e. by y h d e;
  spot = λ o s d e. other o s (o == n) refl d e;
}
  where
    by : (y : ℕ) (h : Home) → IsDeclared (Objects n ∷ ds) (Simple y) → g.home y ≡ Some h → Have params ws h.temp
    by y h (inl same) e = absurd cc
    by y h (inr d) e = k.home y h d e

    other : (o s : ℕ) (b : Bool) → (o == n) ≡ b → IsDeclared (Objects n ∷ ds) (Objects o) →
        (if b then Some t else g.spot o) ≡ Some s → Have params ws s
    other o s true q d e = subst (Have params ws) (same_Some t s e) has
    other o s false q (inl same) e =
        let z : n ≡ o = same_object n o same in let ne : (o == o) ≡ true = grind (arith, nat_tests) in
        let f : (o == o) ≡ false = subst (λ i. (o == i) ≡ false) z q in absurd cc
    other o s false q (inr d) e = k.spot o s d e

module _ (params : ℕ) (whole : List TacInstr) where
  pub entered_plain : {g h : Scene} {es : List Declared} {c : Code} → IsEntered g es h c → (q : ℕ) (r : List TacInstr) →
      behind q (c r) ≡ behind q r
  entered_plain code.nothing q r = refl
  entered_plain (code.simple e h) q r = entered_plain h q r
  entered_plain (code.whole scene same h) q r = entered_plain h q r

  pub entered : {g h : Scene} {es : List Declared} {c : Code} (ds : List Declared) (ws : List ℕ) → IsEntered g es h c →
      Covers params g ds ws → Written params whole h (within_block es ds) ws c
  entered ds ws code.nothing k =
      record { now = ws; more = λ t h. h; covers = k; only = λ often r next. next }
  entered {g = g} ds ws (code.simple {x = x} {t = t} {k = kind} {c = c} e h) k =
      let inner = entered (Simple x ∷ ds) (t ∷ ws) h (covers_home params g ds (t ∷ ws) x
      (λ i f. let q : record { temp = t; kind = kind } ≡ i =
      same_Some (record { temp = t; kind = kind }) i (sym e ∙ f) in
      inl (ap (λ (z : Home). z.temp) q))
      (covers_more params g ds ws (t ∷ ws) (λ u a. inr a) k)) in
      record {
        now = inner.now;
        more = λ u a. inner.more u (inr a);
        covers = inner.covers;
        only = λ often r next. step params whole often ws (instr.Const t kind 0) (c r) tt tt (inner.only often r next);
      }
  entered {g = g} ds ws (code.whole {n = n} {t = t} {c = c} scene same h) k =
      let inner = entered (Objects n ∷ ds) (t ∷ ws) h (covers_spot params g ds (t ∷ ws) n t (inl refl)
      (covers_more params g ds ws (t ∷ ws) (λ u a. inr a) k)) in
      record {
        now = inner.now;
        more = λ u a. inner.more u (inr a);
        covers = inner.covers;
        only = λ often r next. step params whole often ws (instr.Zero n) (instr.Local t n ∷ c r) tt tt
            (step params whole often ws (instr.Local t n) (c r) tt tt (inner.only often r next));
      }

  -- a block, and what stands in it
  pub part_block : (g h : Scene) (ds es : List Declared) (x : Exits) (m n : Mark) (c d : Code) → IsEntered g es h c →
      Part params whole h (within_block es ds) x m n d → Part params whole g ds x m n (λ r. c (d r))
  part_block g h ds es x m n c d e a = record {
    piece = record {
      temps = a.piece.temps;
      labels = a.piece.labels;
      own = λ q r own. entered_plain e q (d r) ∙ a.piece.own q r own;
    };
    only = λ often ws r k st leads next.
        let w = entered ds ws e k in
        w.only often (d r) (a.only often w.now r w.covers
        (stands_in params whole m n m n (c (d r)) r (d r) r (omega arith) (omega arith)
        (λ q le lt. entered_plain e q (d r)) (λ q le lt. refl) st)
        (leads_more params whole often ws w.now x m r w.more leads)
        (only_more params whole often ws w.now r w.more next));
  }
