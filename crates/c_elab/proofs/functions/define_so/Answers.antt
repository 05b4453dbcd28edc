use Rattle.std.proofs.lemmas.Result.{err_from_is_err_and}
use Rattle.std.proofs.Common.{◌≡◌, false, Some, sym, ap, ◌∙◌}
use Rattle.std.proofs.Math.Bool.{or-true}
use Rattle.c_tree.specs.Readings as meant
use Rattle.c_tree.specs.Scopes.{State}
use Rattle.c_tree.specs.Programs.{reading, define_named}
use Rattle.c_types.specs.declared.entries.Decl.{Decl}
use Rattle.c_expressions.specs.Nodes.{type_in}
use Rattle.c_elaborator.specs.declared.work.Work.{Work}
use Rattle.c_elaborator.specs.Answers.{NothingThere, IsNothing}
use Rattle.c_elaborator.proofs.Sequencing.{keeps_then}
use Rattle.std.specs.Prelude.{reverse, not, ◌||◌}
use Rattle.std.specs.Option.{is_some}
use Rattle.c_declarators.specs.Parts.{any_scope, shown_in}
use Rattle.c_elab.proofs.Weaker.{wraps_weaker}
use Rattle.c_readings.proofs.Kids.{part_kept}
use Rattle.c_statements.proofs.Standing.{some_wraps, are_some_wraps}
use Rattle.c_elab.specs.Functions.{IsDeclarator, first_prototype}
use Rattle.c_elab.proofs.Own.{own_there, params_there}
use Rattle.c_elab.proofs.Defining.{defined_decl, formed_here, not_begun, never_unformed, never_begun, definition_begun}
use Rattle.c_readings.proofs.Within.{still_within}
use Rattle.c_elab.proofs.functions.define_so.Goals as goal

pub declare_definition-requires : goal.declare_definition-requires
declare_definition-requires c =
    let u : Work = c.args.work.now in
    let a = c.in_ok-f.ensures (some_wraps u c.args.wraps.items)
    (rw c.as_slice.ensures.value (are_some_wraps u c.args.wraps.items)) in
    record {
      whole = a.whole;
      there = rw c.defined_as.ensures a.there;
    }

pub gives_complete-complete-requires : goal.gives_complete-complete-requires
gives_complete-complete-requires c =
    let u : Work = c.args.work.now in
    let a = c.in_ok-f.ensures (some_wraps u c.args.wraps.items)
    (rw c.as_slice.ensures.value (are_some_wraps u c.args.wraps.items)) in
    record { whole = a.whole; there = a.there }

pub unreachable-requires : goal.unreachable-requires
unreachable-requires c =
    let u : Work = c.args.work.now in
    let v : Work = c.formed.new.work in
    let ws = c.args.wraps.items in
    let h = c.requires.shown in
    let g = formed_here u v (type_in u.nodes c.args.s.of) (some_wraps u ws) c.in_ok-f.f h.state h.shows
    (c.in_ok-f.ensures (some_wraps u ws) (rw c.as_slice.ensures.value (are_some_wraps u ws))) in
    let none : is_some c.own_prototype-own.result ≡ false = ap is_some c.in-None.is in
    not_begun v c.defined_as.result h.state (ap (λ (x : Decl). x.faults.misfits) c.defined_as.ensures
    ∙ ap (λ b. c.in_ok-f.f.faults.misfits || not b) (c.is_some.ensures ∙ none)
    ∙ or-true c.in_ok-f.f.faults.misfits) (c.in_ok-k.ensures.gives h.state g.1)

pub define_body-requires : goal.define_body-requires
define_body-requires c =
    let u : Work = c.args.work.now in
    let v : Work = c.formed.new.work in
    let w : Work = c.declare_definition.new.work in
    let ws = c.args.wraps.items in
    let a = c.in_ok-f.ensures (some_wraps u ws) (rw c.as_slice.ensures.value (are_some_wraps u ws)) in
    let b = c.in_ok-k.ensures in
    let k = keeps_then u v w a.grows.keeps b.grows in
    record {
      whole = b.whole;
      there = params_there u w c.in-Some.p.params.items k
          (own_there u ws c.in-Some.p (sym c.own_prototype-own.ensures ∙ c.in-Some.is) c.requires.parts);
      part =
          still_within u w c.args.block k c.requires.part;
    }

pub returns-in_err-f : goal.returns-in_err-f
returns-in_err-f c = let q = err_from_is_err_and c.from_residual.result c.from_residual.ensures.1 in λ y z hy hz.
    let u : Work = c.args.work.now in
    let v : Work = c.formed.new.work in
    let ws = c.args.wraps.items in
    rw (q.1, q.2) (never_unformed u v v (type_in u.nodes c.args.s.of) (IsDeclarator u c.args.name ws)
    (λ e. define_named y e e.name z (reading z)) NothingThere IsNothing _
    (λ e st i. c.in_err-f.ensures e.wraps (rw c.as_slice.ensures.value
    (wraps_weaker (shown_in u st) any_scope u (reverse ws) e.wraps (λ m n j. tt) i.1))))

pub returns-in_err-k : goal.returns-in_err-k
returns-in_err-k c = let q = err_from_is_err_and c.from_residual-in_err-k.result c.from_residual-in_err-k.ensures.1 in
    λ y z hy hz.
    let u : Work = c.args.work.now in
    let v : Work = c.formed.new.work in
    let w : Work = c.declare_definition.new.work in
    let name = c.args.name in
    let f = c.in_ok-f.f in
    let ws = c.args.wraps.items in
    let form = λ (st : State) (e : meant.Derived) (i : IsDeclarator u name ws st e).
    c.in_ok-f.ensures e.wraps (rw c.as_slice.ensures.value
    (wraps_weaker (shown_in u st) any_scope u (reverse ws) e.wraps (λ m n j. tt) i.1)) in
    let same : c.defined_as.result ≡ defined_decl c.args.s name f c.gives_complete-complete.result
    (is_some (first_prototype ws)) =
    c.defined_as.ensures ∙ ap (defined_decl c.args.s name f c.gives_complete-complete.result)
    (c.is_some.ensures ∙ ap is_some c.own_prototype-own.ensures) in
    rw (q.1, q.2) (never_begun u v c.args.s y z name f ws c.gives_complete-complete.result
    c.gives_complete-complete.ensures w w (IsDeclarator u name ws) c.defined_as.result _ hy
    (c.in_ok-f.ensures (some_wraps u ws) (rw c.as_slice.ensures.value (are_some_wraps u ws))).grows.keeps
    (λ st e i. i) form same c.in_err-k.ensures)

pub returns : goal.returns
returns c = λ y z hy hz.
    let u : Work = c.args.work.now in
    let v : Work = c.formed.new.work in
    let w : Work = c.declare_definition.new.work in
    let name = c.args.name in
    let f = c.in_ok-f.f in
    let p = c.in-Some.p in
    let ws = c.args.wraps.items in
    let own : first_prototype ws ≡ Some p = sym c.own_prototype-own.ensures ∙ c.in-Some.is in
    let a = c.in_ok-f.ensures (some_wraps u ws) (rw c.as_slice.ensures.value (are_some_wraps u ws)) in
    let k = a.grows.keeps in
    let form = λ (st : State) (e : meant.Derived) (i : IsDeclarator u name ws st e).
    c.in_ok-f.ensures e.wraps (rw c.as_slice.ensures.value
    (wraps_weaker (shown_in u st) any_scope u (reverse ws) e.wraps (λ m n j. tt) i.1)) in
    let same : c.defined_as.result ≡ defined_decl c.args.s name f c.gives_complete-complete.result
    (is_some (first_prototype ws)) =
    c.defined_as.ensures ∙ ap (defined_decl c.args.s name f c.gives_complete-complete.result)
    (c.is_some.ensures ∙ ap is_some c.own_prototype-own.ensures) in
    definition_begun u v c.args.s y z name f ws c.gives_complete-complete.result c.gives_complete-complete.ensures w
    c.define_body.new.work (IsDeclarator u name ws) c.defined_as.result c.in_ok-k.k p c.define_body.result hy k own
    (own_there u ws p own c.requires.parts)
    (λ st e i. i) form same c.in_ok-k.ensures
    (c.define_body.ensures z (part_kept u w c.args.block z (keeps_then u v w k c.in_ok-k.ensures.grows) hz))
