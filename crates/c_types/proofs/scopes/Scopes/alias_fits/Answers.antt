use Rattle.std.proofs.Common.{◌≡◌, ◌<◌, ◌∙◌, Bool, true, length, sym, ap, refl}
use Rattle.std.specs.Prelude.{option_map}
use Rattle.c_tree.specs.Scopes.{State, find_in, innermost, at_file_scope}
use Rattle.c_tree.specs.Declarations.{alias_agrees}
use Rattle.c_interner.specs.Numbers.{type_named}
use Rattle.c_types.specs.Fitting.{alias_seen, alias_fits}
use Rattle.c_types.specs.Stands.{Stands, entity_seen, text_at}
use Rattle.c_types.proofs.Looking.{if_ok}
use Rattle.c_types.proofs.Seeing.{alias_seen_is}
use Rattle.c_types.proofs.scopes.Scopes.alias_fits.Goals as goal

pub returns-then-is_at_file_scope : goal.returns-then-is_at_file_scope
returns-then-is_at_file_scope c =
    let sc = c.args.self.now in
    let p = c.args.p.now in
    let n = text_at sc.file.now c.args.d.name in
    let t = type_named p c.args.d.of in
    if_ok c.alias_agrees.result _ (λ (r : Bool). (s : State) → Stands sc p s → c.args.d.of < length p.types →
    r ≡ alias_fits s n t) c.alias_agrees.ensures
    (λ r e s h lt.
    let found = c.look_here.ensures p s h
    ∙ ap (λ m. option_map entity_seen (find_in (innermost s.scopes).names m)) c.text-name.ensures in
    let file : at_file_scope s ≡ true = sym (c.is_at_file_scope.ensures p s h) ∙ c.if-is_at_file_scope.true in
    let here : alias_fits s n t ≡ alias_agrees (find_in (innermost s.scopes).names n) t = rw file refl in
    e lt ∙ ap (λ o. alias_seen o t) found ∙ sym (here ∙ alias_seen_is (find_in (innermost s.scopes).names n) t))
