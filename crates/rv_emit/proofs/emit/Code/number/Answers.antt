use Rattle.std.proofs.Common.{◌≡◌, ℤ, true, ◌++◌, subst, sym, ap, ◌∙◌, w64, to_z, of_z}
use Rattle.purecap_abi.specs.Words.{is_word}
use Rattle.select_words.specs.Numbers.{MakesNumber}
use Rattle.purecap_abi.proofs.Ranges.{on_ok}
use Rattle.rv_words.proofs.WordNumbers.{word_bits, word_is}
use Rattle.rv_emit.proofs.emit.Code.number.Goals as goal

pub returns-clause-text : goal.returns-clause-text
returns-clause-text c =
    let a = c.args in
    let bits = c.cast_unsigned.ensures ∙ ap (λ (z : ℤ). of_z w64 (to_z w64 (of_z w64 z))) c.from.ensures
    ∙ word_bits a.value c.ranges.value in
    let fits = subst (λ n. is_word n ≡ true) (sym bits) (word_is a.value c.ranges.value) in
    on_ok c.put_all.result _ _ c.put_all.ensures.text
    (λ e lt. record {
      added = c.in_ok-part.part.items;
      is = e ∙ ap (λ ws. a.self.now.text ++ ws) c.as_slice.ensures.value;
      are = record {
        makes = subst (λ n. MakesNumber a.to n c.in_ok-part.part.items) bits (c.in_ok-part.ensures.makes fits lt);
        few = c.in_ok-part.ensures.few;
      };
    })
