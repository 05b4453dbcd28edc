use Rattle.std.proofs.Common.{◌+◌, ◌++◌, ℕ, List, length, get_or, drop, Ok, Err}
use Rattle.std.proofs.Common.{refl, sym, ap, subst, ◌∙◌, arith}
use Rattle.std.proofs.lemmas.List.{drop_all}
use Rattle.std.proofs.lemmas.Result.{err_from_is_err_and}
use Rattle.ck_base.specs.declared.positions.Pos.{Pos}
use Rattle.c_tree.specs.Readings.{Filled}
use Rattle.c_tree.specs.Scopes.{Doing}
use Rattle.c_tree.specs.Programs.{reading, readings, is_text}
use Rattle.c_tree.specs.Syntax.{own_token}
use Rattle.c_expressions.specs.Nodes.{type_in}
use Rattle.c_elaborator.specs.Answers.{Answers, quietly}
use Rattle.c_elaborator.specs.Nodes.{syns_of}
use Rattle.c_elaborator.specs.Parts.{AreParts, token_of}
use Rattle.c_elaborator.proofs.Parting.{texts_of}
use Rattle.c_elaborator.proofs.Sequencing.{keeps_same, keeps_then}
use Rattle.c_initializers.specs.declared.slots.Slot.{Slot}
use Rattle.c_initializers.specs.declared.slots.Filled.{Filled as Kept}
use Rattle.c_initializers.specs.Slots.{FilledThere, IsFilled}
use Rattle.c_initializers.proofs.PlaceLaws.{drop-next}
use Rattle.c_statements.specs.declared.initial.Goal.{Goal}
use Rattle.c_statements.specs.Initial.{asked_by, gives_items, SoFar}
use Rattle.c_statements.proofs.Listing.{so_far_begins, so_far_steps, so_far_fails, so_far_ends, item_there}
use Rattle.c_statements.proofs.Listing.{place_is_there, part_is_there, part_is_near, part_refused}
use Rattle.c_statements.proofs.Reading.{reads_braces, reads_string, reads_text, reads_value, string_same, lone_given}
use Rattle.c_statements.proofs.Reading.{braced_listed, one_part, node_parts, text_accepted}
use Rattle.c_readings.proofs.Within.{at_within, deep, have_parts, one_within, still_within}
use Rattle.c_statements.proofs.initial.+initial.Goals as goal

pub initializer-braced-requires : goal.initializer-braced-requires
initializer-braced-requires t c =
    let some = deep c.args.work.now c.args.k c.requires.part in (
      omega arith,
      (
        c.requires.whole,
        (
          c.requires.there,
          (c.requires.near, node_parts c.args.work.now c.args.k c.part-part.result c.part-part.ensures c.requires.part),
        ),
      ),
    )

pub initializer-text_value-requires : goal.initializer-text_value-requires
initializer-text_value-requires t c =
    let f = c.requires.part in
    let n = c.part-part.ensures f.syntax f.is in
    record {
      whole = c.requires.whole;
      there = c.requires.there;
      near = c.requires.near;
      accepted = text_accepted c.args.work.now c.part-part.result f.syntax n c.in-Text.is;
      parts = texts_of c.args.work.now c.part-part.result f.syntax c.in-Text.is n;
    }

pub initializer-returns-in-BracedInitializer : goal.initializer-returns-in-BracedInitializer
initializer-returns-in-BracedInitializer t c = λ x p.
    let u = c.args.work.now in
    let n = c.part-part.ensures x p in
    let g = c.args.goal in
    subst (λ (d : Doing Filled). Answers quietly u c.braced.new.work d FilledThere IsFilled c.braced.result)
    (sym (reads_braces x (asked_by g.asked) g.whole (type_in u.nodes g.of) g.at
    (n.kind ∙ c.in-BracedInitializer.is)))
    (c.braced.ensures (own_token x) (syns_of x) n.pos n.parts)

pub initializer-returns-then-takes_string : goal.initializer-returns-then-takes_string
initializer-returns-then-takes_string t c = λ x p.
    let u = c.args.work.now in
    let n = c.part-part.ensures x p in
    let g = c.args.goal in
    let of = type_in u.nodes g.of in
    subst (λ (d : Doing Filled). Answers quietly u c.text_value.new.work d FilledThere IsFilled c.text_value.result)
    (sym (reads_string x (asked_by g.asked) g.whole of g.at (n.kind ∙ c.in-Text.is)
    (c.takes_string.ensures ∙ c.if-takes_string.true)
    ∙ string_same (own_token x) (token_of u c.part-part.result.name) (syns_of x) g.whole of g.at n.text n.pos))
    (c.text_value.ensures (syns_of x) n.parts)

pub initializer-returns-else-takes_string : goal.initializer-returns-else-takes_string
initializer-returns-else-takes_string t c = λ x p.
    let u = c.args.work.now in
    let n = c.part-part.ensures x p in
    let g = c.args.goal in
    subst (λ (d : Doing Filled). Answers quietly u c.plain_value.new.work d FilledThere IsFilled c.plain_value.result)
    (sym (reads_text x (asked_by g.asked) g.whole (type_in u.nodes g.of) g.at (n.kind ∙ c.in-Text.is)
    (c.takes_string.ensures ∙ c.if-takes_string.false)))
    (c.plain_value.ensures x p)

pub initializer-returns-in_default : goal.initializer-returns-in_default
initializer-returns-in_default t c = λ x p.
    let u = c.args.work.now in
    let n = c.part-part.ensures x p in
    let g = c.args.goal in
    subst (λ (d : Doing Filled). Answers quietly u c.plain_value-in_default.new.work d FilledThere IsFilled
    c.plain_value-in_default.result)
    (sym (reads_value x (asked_by g.asked) g.whole (type_in u.nodes g.of) g.at
    (λ e. c.in_default.not-BracedInitializer (sym n.kind ∙ e)) (λ e. c.in_default.not-Text (sym n.kind ∙ e))))
    (c.plain_value-in_default.ensures x p)

pub braced-lone_text-requires : goal.braced-lone_text-requires
braced-lone_text-requires t c = record {
  whole = c.requires.whole;
  there = c.requires.there;
  parts = have_parts c.args.work.now c.args.kids.now c.requires.parts;
}

pub braced-initializer-requires : goal.braced-initializer-requires
braced-initializer-requires t c =
    let l = rw c.in-Some.is at c.lone_text.ensures in (
      omega arith,
      (
        c.requires.whole,
        (
          c.requires.there,
          (c.requires.near, one_within c.args.work.now c.args.kids.now c.in-Some.k l.0 c.requires.parts),
        ),
      ),
    )

pub braced-returns-in-Some : goal.braced-returns-in-Some
braced-returns-in-Some t c = λ t' xs e p.
    let u = c.args.work.now in
    let l = rw c.in-Some.is at c.lone_text.ensures in
    let g = c.args.goal in
    let o = one_part u c.in-Some.k xs (subst (λ (ks : List ℕ). AreParts u ks xs) l.0 p) in
    subst (λ (d : Doing Filled). Answers quietly u c.initializer.new.work d FilledThere IsFilled c.initializer.result)
    (sym (lone_given t' xs o.0 (asked_by g.asked) g.whole (type_in u.nodes g.of) g.at o.1 (l.1 xs p)))
    (c.initializer.ensures o.0 o.2)

pub braced-returns-in-None : goal.braced-returns-in-None
braced-returns-in-None t c = λ t' xs e p.
    let u = c.args.work.now in
    let l = rw c.in-None.is at c.lone_text.ensures in
    let g = c.args.goal in
    let of = type_in u.nodes g.of in
    subst (λ (d : Doing Filled). Answers quietly u c.list.new.work d FilledThere IsFilled c.list.result)
    (sym (braced_listed t' (is_text xs) (readings xs) (asked_by g.asked) g.whole of g.at (l xs p)
    ∙ ap (λ (q : Pos). gives_items (readings xs) (asked_by g.asked) g.whole of g.at q) e))
    (c.list.ensures xs p)

pub list-listed-requires : goal.list-listed-requires
list-listed-requires t c = (
  omega arith,
  (
    c.requires.whole,
    (c.requires.there, (c.requires.near, (c.requires.parts, c.in_ok-places.ensures {u = tt}))),
  ),
)

pub listed-loop-k-init : goal.listed-loop-k-init
listed-loop-k-init t c =
    let u = c.args.work.now in
    record {
      keeps = keeps_same u;
      whole = c.requires.whole;
      number = refl;
      given = λ xs p. so_far_begins u c.args.goal c.args.brace c.args.kids.now c.new-slots.result.items c.requires.whole
          c.new-slots.ensures.items xs p;
    }

pub listed-returns-in_err-part : goal.listed-returns-in_err-part
listed-returns-in_err-part t c =
    let q = err_from_is_err_and c.from_residual.result c.from_residual.ensures.1 in
    λ xs p.
    let u = c.args.work.now in
    let v = c.loop-k.work in
    let i = c.loop-k.k-index in
    let ks = c.args.kids.now in
    let given = c.loop-k.slots.items in
    let so_far = subst (λ (js : List ℕ). SoFar u v c.args.goal c.args.brace xs i js given)
    (drop-next ks i 0 c.loop-k-test.true) (c.loop-k.invariant.given xs p) in
    rw (q.1, q.2)
    (part_refused u v v c.args.goal c.args.brace xs i (get_or ks i 0) (drop (i + 1) ks) given c.args.places.now
    (length ks) c.loop-k.number c.in_err-part.field-0.0 so_far c.requires.places c.loop-k-test.true
    c.loop-k.invariant.number
    c.in_err-part.ensures)

pub listed-initializer-requires : goal.listed-initializer-requires
listed-initializer-requires t c =
    let u = c.args.work.now in
    let v = c.loop-k.work in
    let i = c.loop-k.k-index in
    let ks = c.args.kids.now in (
      omega arith,
      (
        c.loop-k.invariant.whole,
        (
          part_is_there u v c.args.goal c.in_ok-part.part c.args.places.now
              (length ks) c.loop-k.number c.args.brace c.requires.places c.loop-k.invariant.keeps
              (c.in_ok-part.ensures {u = tt}),
          (
            part_is_near c.args.goal c.in_ok-part.part c.args.places.now c.loop-k.number c.args.brace c.requires.near
                c.requires.places.near (c.in_ok-part.ensures {u = tt}),
            still_within u v (get_or ks i 0) c.loop-k.invariant.keeps
                (at_within u ks i 0 c.loop-k-test.true c.requires.parts),
          ),
        ),
      ),
    )

pub listed-returns-in_err-filled : goal.listed-returns-in_err-filled
listed-returns-in_err-filled t c =
    let q = err_from_is_err_and c.from_residual-in_err-filled.result c.from_residual-in_err-filled.ensures.1 in
    λ xs p.
    let u = c.args.work.now in
    let v = c.loop-k.work in
    let w = c.initializer.new.work in
    let i = c.loop-k.k-index in
    let ks = c.args.kids.now in
    let k = get_or ks i 0 in
    let g = c.args.goal in
    let given = c.loop-k.slots.items in
    let so_far = subst (λ (js : List ℕ). SoFar u v g c.args.brace xs i js given) (drop-next ks i 0 c.loop-k-test.true)
    (c.loop-k.invariant.given xs p) in
    let a = c.requires.places in
    let part = c.in_ok-part.part in
    let h = c.in_ok-part.ensures {u = tt} in
    let e = c.in_err-filled.field-0.0 in
    rw (q.1, q.2)
    (so_far_fails u v w g c.args.brace xs i k (drop (i + 1) ks) given h.0 e so_far
    (item_there u g part c.args.places.now (length ks) i c.loop-k.number c.args.brace a c.loop-k-test.true
    c.loop-k.invariant.number h)
    (c.loop-k.invariant.keeps.types h.0.of (place_is_there u g part c.args.places.now
    (length ks) c.loop-k.number c.args.brace a h))
    (λ y r. subst (λ (z : Goal). Answers quietly v w
    ((reading y).initializer (asked_by z.asked) z.whole (type_in v.nodes z.of) z.at) FilledThere IsFilled
    (Err e)) h.2 (c.in_err-filled.ensures y r)))

pub listed-loop-k-preserved : goal.listed-loop-k-preserved
listed-loop-k-preserved t c =
    let u = c.args.work.now in
    let v = c.loop-k.work in
    let w = c.initializer.new.work in
    let i = c.loop-k.k-index in
    let ks = c.args.kids.now in
    let k = get_or ks i 0 in
    let g = c.args.goal in
    let given = c.loop-k.slots.items in
    let more = c.in_ok-filled.filled in
    let a = c.requires.places in
    let part = c.in_ok-part.part in
    let h = c.in_ok-part.ensures {u = tt} in
    let first = still_within u v k c.loop-k.invariant.keeps (at_within u ks i 0 c.loop-k-test.true c.requires.parts) in
    let d = c.in_ok-filled.ensures first.syntax first.is in
    record {
      keeps = keeps_then u v w c.loop-k.invariant.keeps d.grows.keeps;
      whole = d.whole;
      number = ap (λ n. n + 1) c.loop-k.invariant.number;
      given = λ xs p.
          let so_far = subst (λ (js : List ℕ). SoFar u v g c.args.brace xs i js given)
          (drop-next ks i 0 c.loop-k-test.true) (c.loop-k.invariant.given xs p) in
          so_far_steps u v w g c.args.brace xs i k (drop (i + 1) ks) given c.append.new.slots.items h.0 more so_far
          (item_there u g part c.args.places.now
          (length ks) i c.loop-k.number c.args.brace a c.loop-k-test.true c.loop-k.invariant.number h)
          (c.loop-k.invariant.keeps.types h.0.of (place_is_there u g part c.args.places.now
          (length ks) c.loop-k.number c.args.brace a h))
          (λ y r. subst (λ (z : Goal). Answers quietly v w
          ((reading y).initializer (asked_by z.asked) z.whole (type_in v.nodes z.of) z.at) FilledThere IsFilled
          (Ok more)) h.2 (c.in_ok-filled.ensures y r))
          (c.in_ok-append.ensures ∙ ap (λ (l : List Slot). given ++ l) c.as_slice.ensures.value);
    }

pub listed-returns : goal.listed-returns
listed-returns t c = λ xs p.
    let u = c.args.work.now in
    let i = c.loop-k.k-index in
    let ks = c.args.kids.now in
    let f : Kept = record { slots = c.loop-k.slots; count = length ks } in
    so_far_ends u c.loop-k.work c.args.goal c.args.brace xs i ks (drop i ks) c.loop-k.slots.items f
    (c.loop-k.invariant.given xs p) (drop_all i ks c.loop-k-test.false) p refl refl
