-- Code for the parts of a function, in steps.
use Rattle.std.proofs.Common.{ℕ, ◌+◌, ◌≤◌, List, [], ◌∷◌, length, ap, ◌∙◌, arith}
use Rattle.c_tree.specs.declared.typed.FunDef.{FunDef}
use Rattle.c_tree.specs.declared.typed.Typed.{Typed}
use Rattle.c_tree.specs.declared.typed.VarDef.{VarDef}
use Rattle.tac_ir.specs.declared.code.TacInstr.TheVariants as instr
use Rattle.tac_ir.specs.declared.code.TacKind.{TacKind}
use Rattle.tac_lower.specs.declared.context.Home.{Home}
use Rattle.tac_lower.specs.declared.context.Home.TheVariants as home
use Rattle.tac_emit.specs.declared.emitter.Emitter.{Emitter}
use Rattle.tac_lower.specs.declared.types.TypeFacts.{TypeFacts}
use Rattle.tac_emit.specs.Emitted.{HasKind, Keeps, IsWell, IsOpen, Built, Grown, Labelled, Forked, Turned, Pushed, Adds}
use Rattle.tac_lower.specs.Scenes.{HomeFits, Housed, Scene, Lowered, Opened}
use Rattle.tac_emit.proofs.Wells.{built, built_then, keeps_same}
use Rattle.tac_emit.proofs.Labels.{pending_none, pending_built, pending_then, pending_more, pending_swap}
use Rattle.tac_emit.proofs.Labels.{pending_stands, pending_open, pending_open_next}

module _ (p : Typed) (d : FunDef) (types : List TypeFacts) (homes : List Home) where
  pub home_kept : (a b : Emitter) (v : VarDef) (h : Home) → Keeps a.kinds.items b.kinds.items → HomeFits p d a v h →
      HomeFits p d b v h
  home_kept a b v (home.Temp t k) g f = (record { there = g.kept t k f.0.there }, f.1, f.2)
  home_kept a b v (home.Object n t) g f = (record { there = g.kept t _ f.0.there }, f.1)

  pub housed_kept : (a b : Emitter) → Keeps a.kinds.items b.kinds.items → Housed p d homes a → Housed p d homes b
  housed_kept a b g h = record { many = h.many; stand = λ x o v e f. home_kept a b v o g (h.stand x o v e f) }

  pub scene_built : (a b : Emitter) → Scene p d types homes a → Built p d a b → Scene p d types homes b
  scene_built a b s g = record { ready = s.ready; housed = housed_kept a b g.keeps s.housed; well = g.well }

  pub scene_grown : (a b : Emitter) → Scene p d types homes a → Grown a b → Scene p d types homes b
  scene_grown a b s g = scene_built a b s (built p d a b s.well g)

  pub grown_lowered : (a b : Emitter) (m n q : ℕ) → Scene p d types homes a → Grown a b → Adds a b m n → m ≤ q → n ≤ q →
      Lowered p d types homes a b q
  grown_lowered a b m n q s g h l r = record {
    built = built p d a b s.well g;
    scene = scene_grown a b s g;
    adds = record { temps = omega (arith, h.temps, l); labels = omega (arith, h.labels, r) };
  }

  pub lowered_then : (a b c : Emitter) (m n q : ℕ) → Lowered p d types homes a b m → Lowered p d types homes b c n →
      m + n ≤ q → Lowered p d types homes a c q
  lowered_then a b c m n q f g l = record {
    built = built_then p d a b c f.built g.built;
    scene = g.scene;
    adds = record {
      temps = omega (arith, f.adds.temps, g.adds.temps, l);
      labels = omega (arith, f.adds.labels, g.adds.labels, l);
    };
  }

  pub lowered_grown : (a b c : Emitter) (m n q : ℕ) → Lowered p d types homes a b m → Grown b c → Adds b c n 0 →
      m + n ≤ q → Lowered p d types homes a c q
  lowered_grown a b c m n q f g h l =
      lowered_then a b c m n q f (grown_lowered b c n 0 n f.scene g h (omega arith) (omega arith)) l

  pub lowered_none : (a : Emitter) (q : ℕ) → Scene p d types homes a → Lowered p d types homes a a q
  lowered_none a q s = record {
    built = pending_built p d a a (pending_none p d a s.well);
    scene = s;
    adds = record { temps = omega arith; labels = omega arith };
  }

  pub lowered_more : (a b : Emitter) (m q : ℕ) → Lowered p d types homes a b m → m ≤ q → Lowered p d types homes a b q
  lowered_more a b m q f l =
      record {
        built = f.built;
        scene = f.scene;
        adds = record { temps = omega (arith, f.adds.temps, l); labels = omega (arith, f.adds.labels, l) };
      }

  pub kept_lowered : (a b : Emitter) (t : ℕ) (k : TacKind) (n : ℕ) → HasKind a t k → Lowered p d types homes a b n →
      HasKind b t k
  kept_lowered a b t k n h f = record { there = f.built.keeps.kept t k h.there }

  pub open_lowered : (a b : Emitter) (l n : ℕ) → IsOpen a l → Lowered p d types homes a b n → IsOpen b l
  open_lowered a b l n o f = record { is = ap (λ z. z l) f.built.opens ∙ o.is }

  -- ---- with labels that do not stand so far

  pub opened_none : (a : Emitter) → Scene p d types homes a → Opened p d types homes a a [] 0
  opened_none a s = record {
    pending = pending_none p d a s.well;
    scene = s;
    adds = record { temps = omega arith; labels = omega arith };
  }

  labelled_scene : (a b : Emitter) (l : ℕ) → Scene p d types homes a → Labelled a b l → IsWell p d b →
      Scene p d types homes b
  labelled_scene a b l s h w =
      record {
        ready = s.ready;
        housed = housed_kept a b (keeps_same a.kinds.items b.kinds.items h.kinds) s.housed;
        well = w;
      }

  pub opened_more : (a b c : Emitter) (ls : List ℕ) (l n : ℕ) → Opened p d types homes a b ls n → Labelled b c l →
      Opened p d types homes a c (l ∷ ls) (n + 1)
  opened_more a b c ls l n f h =
      let more = pending_more p d a b c ls l f.pending h in
      record {
        pending = more;
        scene = labelled_scene b c l f.scene h more.well;
        adds = record {
          temps = omega (arith, f.adds.temps, ap (λ z. length z) h.kinds);
          labels = omega (arith, f.adds.labels, h.labels);
        };
      }

  pub opened_then : (a b c : Emitter) (ls : List ℕ) (m n : ℕ) → Opened p d types homes a b ls m →
      Lowered p d types homes b c n → Opened p d types homes a c ls (m + n)
  opened_then a b c ls m n f g = record {
    pending = pending_then p d a b c ls f.pending g.built;
    scene = g.scene;
    adds = record {
      temps = omega (arith, f.adds.temps, g.adds.temps);
      labels = omega (arith, f.adds.labels, g.adds.labels);
    };
  }

  pub opened_stands : (a b c : Emitter) (ls : List ℕ) (l n : ℕ) → Opened p d types homes a b (l ∷ ls) n →
      Pushed b c (instr.Label l) → Opened p d types homes a c ls n
  opened_stands a b c ls l n f h =
      let less = pending_stands p d a b c l ls f.pending h in
      record {
        pending = less;
        scene = record {
          ready = f.scene.ready;
          housed = housed_kept b c (keeps_same b.kinds.items c.kinds.items h.kinds) f.scene.housed;
          well =
              less.well;
        };
        adds = record {
          temps = omega (arith, f.adds.temps, ap (λ z. length z) h.kinds);
          labels = omega (arith, f.adds.labels, h.labels);
        };
      }

  pub opened_lowered : (a b : Emitter) (n q : ℕ) → Opened p d types homes a b [] n → n ≤ q →
      Lowered p d types homes a b q
  opened_lowered a b n q f l =
      lowered_more a b n q (record { built = pending_built p d a b f.pending; scene = f.scene; adds = f.adds }) l

  pub opened_has : (a b : Emitter) (ls : List ℕ) (t : ℕ) (k : TacKind) (n : ℕ) → HasKind a t k →
      Opened p d types homes a b ls n → HasKind b t k
  opened_has a b ls t k n h f = record { there = f.pending.keeps.kept t k h.there }

  -- ---- a choice: two labels are made, the first stands between its ways and the second behind them

  pub forked : (a b : Emitter) (l m : ℕ) → Scene p d types homes a → Forked a b l m →
      Opened p d types homes a b (m ∷ l ∷ []) 2
  forked a b l m s h = opened_more a h.middle b (l ∷ []) m 1
      (opened_more a a h.middle [] l 0 (opened_none a s) h.first) h.second

  pub fork_other : (a b : Emitter) (l m n : ℕ) → Opened p d types homes a b (m ∷ l ∷ []) n → IsOpen b l
  fork_other a b l m n f = pending_open_next p d a b m l [] f.pending

  pub fork_end : (a b : Emitter) (ls : List ℕ) (m n : ℕ) → Opened p d types homes a b (m ∷ ls) n → IsOpen b m
  fork_end a b ls m n f = pending_open p d a b m ls f.pending

  pub opened_swap : (a b : Emitter) (ls : List ℕ) (l m n : ℕ) → Opened p d types homes a b (m ∷ l ∷ ls) n →
      Opened p d types homes a b (l ∷ m ∷ ls) n
  opened_swap a b ls l m n f =
      record { pending = pending_swap p d a b m l ls f.pending; scene = f.scene; adds = f.adds }

  pub fork_turned : (a b c : Emitter) (l m n : ℕ) → Opened p d types homes a b (m ∷ l ∷ []) n → Turned b c l →
      Adds b c 0 0 → Opened p d types homes a c (m ∷ []) n
  fork_turned a b c l m n f h q =
      let led : Built p d b h.middle = built p d b h.middle f.scene.well h.leads in
      let middle = pending_then p d a b h.middle (m ∷ l ∷ []) f.pending led in
      let less = pending_stands p d a h.middle c l (m ∷ []) (pending_swap p d a h.middle m l [] middle) h.stands in
      record {
        pending = less;
        scene = record {
          ready = f.scene.ready;
          housed = housed_kept h.middle c (keeps_same h.middle.kinds.items c.kinds.items h.stands.kinds)
              (housed_kept b h.middle h.leads.keeps f.scene.housed);
          well = less.well;
        };
        adds = record { temps = omega (arith, f.adds.temps, q.temps); labels = omega (arith, f.adds.labels, q.labels) };
      }

  pub fork_joined : (a b c : Emitter) (m n q : ℕ) → Opened p d types homes a b (m ∷ []) n → Pushed b c (instr.Label m) →
      n ≤ q → Lowered p d types homes a c q
  fork_joined a b c m n q f h l = opened_lowered a c n q (opened_stands a b c [] m n f h) l

  -- ---- one label, which stands behind what leads to it

  pub label_made : (a b : Emitter) (l : ℕ) → Scene p d types homes a → Labelled a b l →
      Opened p d types homes a b (l ∷ []) 1
  label_made a b l s h = opened_more a a b [] l 0 (opened_none a s) h
