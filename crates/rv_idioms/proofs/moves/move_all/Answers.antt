use Rattle.std.proofs.Common.{◌≡◌, [], ◌∷◌, ◌++◌, ◌<◌, length, map, rules, arith, sym, ap, ◌∙◌, subst}
use Rattle.rv_idioms.specs.Moves.{AreFree, moving}
use Rattle.rv_idioms.proofs.Moved.{first_out, rest_free, rest_unread, moved_on, grown_by, no_items, all_moved}
use Rattle.rv_idioms.proofs.moves.move_all.Goals as goal
use Rattle.rv_idioms.proofs.moves.move_all.Goals.{then-is_read+in_ok-put, else-is_read}

pub loop-scratch-preserved : goal.loop-scratch-preserved
loop-scratch-preserved c =
    let old = c.args.code.now in
    let was = c.loop-scratch.invariant in
    let mid = c.loop-scratch.code in
    let moves = c.loop-scratch.moves.items in
    let rest = c.remove-m.new.self.items in
    let m = c.remove-m.result in
    let now = c.put-in-loop-scratch.new.self in
    let move = c.moving-in-loop-scratch.result in
    let put = c.in_ok-put-2.ensures.text in
    record {
      kept = search rules;
      few = search rules;
      links = search rules;
      none = search rules;
      grows = elim c.if-is_read.branch [
        | then-is_read+in_ok-put w ↦
            grown_by old w.put.new.self now (move ∷ [])
            (grown_by old mid w.put.new.self (w.moving.result ∷ []) was.grows w.in_ok-put.ensures.text)
            (put ∙ ap (λ x. x.text ++ move ∷ []) w.code-is)
        | else-is_read w ↦ grown_by old mid now (move ∷ []) was.grows (put ∙ ap (λ x. x.text ++ move ∷ []) w.code-is)
      ];
      free = λ free.
          let still = was.free free in
          let whole = old.text ++ map moving c.args.moves.items in
          let all = c.as_slice.ensures.value in
          let inside : c.next-k.result < length moves = omega (arith, c.next-k.ensures.inside, ap length all) in
          let first = first_out moves c.next-k.result m (c.next-k.ensures.free (subst AreFree (sym all) still.0)) inside
          c.remove-m.ensures.value ∙ ap (λ x. m ∷ x) (sym c.remove-m.ensures.items) in
          elim c.if-is_read.branch [
            | then-is_read+in_ok-put w ↦ absurd (cc (w.if-is_read.ensures, rest_unread moves rest m first still.0))
            | else-is_read w ↦
                subst (λ x. AreFree x.items × (now.text ++ map moving x.items ≡ whole)) (sym w.moves-is) (
                  rest_free moves rest m first still.0,
                  moved_on moves rest m first whole mid.text now.text still.1
                      (put ∙ ap (λ x. x.text ++ move ∷ []) w.code-is
                      ∙ ap (λ x. mid.text ++ x ∷ []) c.moving-in-loop-scratch.ensures.is),
                )
          ];
    }

pub returns-clause-free : goal.returns-clause-free
returns-clause-free c = λ free.
    let none = no_items c.loop-scratch.moves.items (search rules) in
    all_moved c.loop-scratch.code.text _ c.loop-scratch.moves.items none (c.loop-scratch.invariant.free free).1
