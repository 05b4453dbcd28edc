-- What is appended for loads and stores, whose lines say where the word stands that may trap.
use Rattle.std.proofs.Common.{◌≡◌, ℕ, ◌+◌, pos, List, [], ◌∷◌, ◌++◌, length, refl, ap, ◌∙◌, subst}
use Rattle.std.proofs.lemmas.List.{length-append}
use Rattle.ck_base.specs.declared.positions.Pos.{Pos}
use Rattle.rv_instr.specs.declared.instr.Instr.{Instr}
use Rattle.rv_instr.specs.declared.instr.Instr.TheVariants.{Store}
use Rattle.tac_ir.specs.declared.code.TacInstr.TheVariants as instr
use Rattle.tac_ir.specs.declared.code.TacKind.{TacKind}
use Rattle.select_words.specs.Selecting.{Selecting}
use Rattle.select_words.specs.Accesses.{load_words, store_op}
use Rattle.select_words.specs.Emitted.{Operand, Target, Keep}
use Rattle.rv_emit.specs.Growing.{Size, Links, Puts, trapping}
use Rattle.rv_select.specs.Noting.{Selects}
use Rattle.rv_emit.proofs.Appended.{more}

-- a word so far behind others traps
pub trapping_behind : (old : Links) (a b text : List Instr) (now mid : Links) (place : Pos) → text ≡ a ++ b
    → now ≡ trapping mid (length text) place 0 → mid ≡ old → now ≡ trapping old (length a + length b) place 0
trapping_behind old a b text now mid place is t e =
    t ∙ ap (λ (x : Links). trapping x (length text) place 0) e
    ∙ ap (λ n. trapping old n place 0) (ap length is ∙ length-append a b)

module _ (s : Selecting) (place : Pos) (k : TacKind) (a : ℕ) (old found mid new : Size) where
  pub load_selected : (to from r left : ℕ) → left ≡ 28 → Target s to r
      → Puts (λ ws. Operand s from left ws a) old found → found.links ≡ old.links
      → mid.text ≡ found.text ++ load_words k r a → mid.links ≡ trapping found.links (length found.text) place 0
      → Puts (Keep s to r) mid new → new.links ≡ mid.links → Selects s (instr.Load to from k place) old new
  load_selected to from r left e t o l w tr p q = record {
    added = o.added ++ (load_words k r a ++ p.added);
    is = more old.text o.added (load_words k r a ++ p.added) found.text new.text o.is
        (more found.text (load_words k r a) p.added mid.text new.text w p.is);
    are = (
      length o.added,
      (
        record {
          a = a;
          finds = o.added;
          found = subst (λ y. Operand s from y o.added a) e o.are;
          then_on = load_words k r a ++ p.added;
          makes = record {
            r = r;
            target = t;
            work = load_words k r a;
            works = refl;
            keep = p.added;
            kept = p.are;
            are = refl;
          };
          are = refl;
        },
        refl,
      ),
      q ∙ trapping_behind old.links old.text o.added found.text mid.links found.links place o.is tr l,
    );
  }

  pub store_selected : (to value b left right : ℕ) → left ≡ 28 → right ≡ 29
      → Puts (λ ws. Operand s to left ws a) old found → found.links ≡ old.links
      → Puts (λ ws. Operand s value right ws b) found mid → mid.links ≡ found.links
      → new.text ≡ mid.text ++ Store (store_op k) b a (pos 0) ∷ []
      → new.links ≡ trapping mid.links (length mid.text) place 0 → Selects s (instr.Store to value k place) old new
  store_selected to value b left right e f o l p m w tr =
      let both = more old.text o.added p.added found.text mid.text o.is p.is in
      let size = length-append o.added p.added in
      record {
        added = o.added ++ (p.added ++ Store (store_op k) b a (pos 0) ∷ []);
        is = more old.text o.added (p.added ++ Store (store_op k) b a (pos 0) ∷ []) found.text new.text o.is
            (more found.text p.added (Store (store_op k) b a (pos 0) ∷ []) mid.text new.text p.is w);
        are = (
          length o.added + length p.added,
          (
            record {
              a = a;
              b = b;
              finds = o.added;
              others = p.added;
              found = subst (λ y. Operand s to y o.added a) e o.are;
              other = subst (λ y. Operand s value y p.added b) f p.are;
              are = refl;
            },
            refl,
          ),
          trapping_behind old.links old.text (o.added ++ p.added) mid.text new.links mid.links place both tr (m ∙ l)
              ∙ ap (λ n. trapping old.links (length old.text + n) place 0) size,
        );
      }
