use Rattle.std.proofs.Common.{◌≡◌, ℕ, ◌<◌, length, refl, sym, arith, length-append, [], ◌∷◌, List, get_or, subst}
use Rattle.std.proofs.lemmas.Option.{slice_get-get_or}
use Rattle.std.specs.Prelude.{slice_index}
use Rattle.c_tree.specs.Views.{type_from}
use Rattle.c_types.specs.Beginning.{recipe_type}
use Rattle.c_types.specs.declared.beginning.TheConstants.{RECIPES}
use Rattle.c_types.specs.declared.beginning.Recipe.TheVariants.{Void}
use Rattle.c_interner.proofs.Keeping.{adds_none, adds_then}
use Rattle.c_types.proofs.Start.{knows_none, knows_more}
use Rattle.c_types.proofs.beginning.known_types.Goals as goal

pub loop-recipe-init : goal.loop-recipe-init
loop-recipe-init c = record {
  adds = adds_none c.args.p.now;
  count = rw c.new-numbers.ensures.items refl;
  knows = rw c.new-numbers.ensures.items (knows_none _);
}

pub loop-recipe-preserved : goal.loop-recipe-preserved
loop-recipe-preserved c =
    let i = c.loop-recipe.recipe-index in
    let ns = c.loop-recipe.numbers.items in
    let lt : i < length RECIPES = omega (arith, c.loop-recipe-test.true) in
    record {
      adds = adds_then c.args.p.now c.loop-recipe.p c.number_of.new.p c.loop-recipe.invariant.adds
          c.in_ok-k.ensures.adds;
      count = rw c.in_ok-push.ensures.items (omega
          (arith, length-append ns (c.in_ok-k.k ∷ []), c.loop-recipe.invariant.count));
      knows = rw c.in_ok-push.ensures.items
          (knows_more c.loop-recipe.p c.number_of.new.p ns _ c.in_ok-c.c c.in_ok-k.k i
          (sym c.loop-recipe.invariant.count) (slice_get-get_or RECIPES i Void lt) c.in_ok-k.ensures.adds
          c.in_ok-k.ensures.ok
          (λ go. subst (λ (xs : List ℕ). type_from c.in_ok-c.c go
          ≡ recipe_type (get_or RECIPES i Void) (λ j. go (slice_index xs j))) c.as_slice.ensures.value
          (c.in_ok-c.ensures.is go)) c.loop-recipe.invariant.knows);
    }

pub returns-in_err-push-clause-adds : goal.returns-in_err-push-clause-adds
returns-in_err-push-clause-adds c =
    adds_then c.args.p.now c.loop-recipe.p c.number_of.new.p c.loop-recipe.invariant.adds c.in_ok-k.ensures.adds
