-- What is appended for calls.
use Rattle.std.proofs.Common.{◌≡◌, inl, inr, ℕ, ◌+◌, pos, List, [], ◌∷◌, ◌++◌, length, Option, refl, ap, ◌∙◌, subst}
use Rattle.std.proofs.lemmas.List.{length-append}
use Rattle.ck_base.specs.declared.positions.Pos.{Pos}
use Rattle.rv_instr.specs.declared.instr.Instr.TheVariants.{Cjal, Cjalr}
use Rattle.tac_ir.specs.declared.code.TacInstr.TheVariants as instr
use Rattle.select_words.specs.Calling.{FindsEntry}
use Rattle.select_words.specs.Selecting.{Selecting}
use Rattle.select_words.specs.Passing.{ArgumentWords}
use Rattle.select_words.specs.Services.{KeepSome}
use Rattle.select_words.specs.Words.{Bring}
use Rattle.rv_emit.specs.Growing.{Size, Links, Puts, calling, trapping}
use Rattle.rv_select.specs.Noting.{noting, Selects}
use Rattle.rv_select.specs.Selected.{AreAside, CallsThrough}
use Rattle.rv_select.proofs.Accessed.{trapping_behind}
use Rattle.rv_emit.proofs.Appended.{more}

module _ (s : Selecting) (to : Option ℕ) (args : List ℕ) (old passed called new : Size) where
  pub call_selected : (fun : ℕ) → Puts (λ ws. AreAside s args → ArgumentWords s args ws) old passed
      → passed.links ≡ old.links → called.text ≡ passed.text ++ Cjal 1 (pos 0) ∷ []
      → called.links ≡ calling passed.links (length passed.text) fun
      → Puts (KeepSome s to) called new → new.links ≡ called.links → Selects s (instr.Call to fun args) old new
  call_selected fun p l t n k m = record {
    added = (p.added ++ Cjal 1 (pos 0) ∷ []) ++ k.added;
    is = more old.text (p.added ++ Cjal 1 (pos 0) ∷ []) k.added called.text new.text
        (more old.text p.added (Cjal 1 (pos 0) ∷ []) passed.text called.text p.is t) k.is;
    are = inl (record {
      offset = pos 0;
      passes = p.added;
      passed = p.are;
      leads = (
        refl,
        m ∙ n ∙ ap (λ (x : Links). calling x (length passed.text) fun) l
            ∙ ap (λ x. calling old.links x fun) (ap length p.is ∙ length-append old.text p.added),
      );
      keep = k.added;
      kept = k.are;
      are = refl;
    });
  }

module _ (s : Selecting) (to : Option ℕ) (way : ℕ) (args : List ℕ) (old found passed called new : Size) where
  pub far_selected : (fun : ℕ) → way ≡ 31 → Puts (FindsEntry (s.functions + fun)) old found → found.links ≡ old.links
      → Puts (λ ws. AreAside s args → ArgumentWords s args ws) found passed → passed.links ≡ found.links
      → called.text ≡ passed.text ++ Cjalr 1 way (pos 0) ∷ [] → called.links ≡ passed.links
      → Puts (KeepSome s to) called new → new.links ≡ called.links → Selects s (instr.Call to fun args) old new
  far_selected fun w b g p l t n k m =
      let jumps : called.text ≡ passed.text ++ Cjalr 1 31 (pos 0) ∷ [] =
      t ∙ ap (λ x. passed.text ++ Cjalr 1 x (pos 0) ∷ []) w in
      let call = b.added ++ (p.added ++ Cjalr 1 31 (pos 0) ∷ []) in
      record {
        added = call ++ k.added;
        is = more old.text call k.added called.text new.text
            (more old.text b.added (p.added ++ Cjalr 1 31 (pos 0) ∷ []) found.text called.text b.is
            (more found.text p.added (Cjalr 1 31 (pos 0) ∷ []) passed.text called.text p.is jumps)) k.is;
        are = inr (
          m ∙ n ∙ l ∙ g,
          record {
            finds = b.added;
            found = b.are;
            passes = p.added;
            passed = p.are;
            keep = k.added;
            kept = k.are;
            are = refl;
          },
        );
      }

module _ (s : Selecting) (to : Option ℕ) (v way : ℕ) (args : List ℕ) (place : Pos)
    (old found passed called new : Size) where
  pub through_called : way ≡ 31 → Puts (Bring s v way) old found → found.links ≡ old.links
      → Puts (λ ws. AreAside s args → ArgumentWords s args ws) found passed → passed.links ≡ found.links
      → called.text ≡ passed.text ++ Cjalr 1 way (pos 0) ∷ []
      → called.links ≡ trapping passed.links (length passed.text) place 0
      → Puts (KeepSome s to) called new → new.links ≡ called.links
      → Puts (CallsThrough (λ n. (noting old new).Traps n place) s to v args) old new
  through_called w b g p l t tr k m =
      let jumps : called.text ≡ passed.text ++ Cjalr 1 31 (pos 0) ∷ [] =
      t ∙ ap (λ x. passed.text ++ Cjalr 1 x (pos 0) ∷ []) w in
      let call = b.added ++ (p.added ++ Cjalr 1 31 (pos 0) ∷ []) in
      let size = length-append b.added p.added in
      record {
        added = call ++ k.added;
        is = more old.text call k.added called.text new.text
            (more old.text b.added (p.added ++ Cjalr 1 31 (pos 0) ∷ []) found.text called.text b.is
            (more found.text p.added (Cjalr 1 31 (pos 0) ∷ []) passed.text called.text p.is jumps)) k.is;
        are = record {
          finds = b.added;
          found = subst (λ x. Bring s v x b.added) w b.are;
          passes = p.added;
          passed = p.are;
          reports = m ∙ trapping_behind old.links old.text (b.added ++ p.added) passed.text called.links passed.links
              place (more old.text b.added p.added found.text passed.text b.is p.is) tr (l ∙ g)
              ∙ ap (λ n. trapping old.links (length old.text + n) place 0) size;
          keep = k.added;
          kept = k.are;
          are = refl;
        };
      }
