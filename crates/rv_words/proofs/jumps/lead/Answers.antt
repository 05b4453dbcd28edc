use Rattle.std.proofs.Common.{◌<◌, length, refl, arith, rules}
use Rattle.std.proofs.lemmas.Option.{slice_get_read}
use Rattle.rv_words.proofs.Targets.{led_one}
use Rattle.rv_words.proofs.Led.{led_by, led_past, led_far, led_narrow}
use Rattle.rv_words.proofs.jumps.lead.Goals as goal
use Rattle.rv_words.proofs.jumps.lead.Goals.{else-at-len-via-else-at-len, else-at-len-via-then-at-len+in-None-1}
use Rattle.rv_words.proofs.jumps.lead.Goals.{else-at-len-via-then-at-len+in-Some+in-None-1}

pub returns-in-Some-led-clause-led : goal.returns-in-Some-led-clause-led
returns-in-Some-led-clause-led c =
    let a = c.args in
    let led = c.in-Some-led.ensures in
    let hop = c.in-Some.ensures in
    let inside : a.at < length a.words.now.items =
    omega (arith, c.if-at-len.true, c.len.ensures, a.words.now.ok) in
    led_one a.words.now.items a.at a.to c.index.result.now c.in-Some-led.i c.in-Some.bytes c.requires.sound inside
    c.index.ensures led.led led.in_range c.requires.target hop.range hop.there

pub returns-in-Some-led-clause-there : goal.returns-in-Some-led-clause-there
returns-in-Some-led-clause-there c =
    let a = c.args in
    let led = c.in-Some-led.ensures in
    let hop = c.in-Some.ensures in
    let inside : a.at < length a.words.now.items =
    omega (arith, c.if-at-len.true, c.len.ensures, a.words.now.ok) in
    led_by a.words.now.items a.at a.to c.index.result.now c.in-Some-led.i c.in-Some.bytes hop.range inside
    (slice_get_read a.words.now.items (length a.words.now.items) a.at c.index.result.now refl inside c.index.ensures)
    hop.there led.is

pub returns-else-at-len-clause-there : goal.returns-else-at-len-clause-there
returns-else-at-len-clause-there c =
    let a = c.args in
    elim c.else-at-len.branch [
      | else-at-len-via-else-at-len w ↦ led_past a.words.now.items a.at a.to
          (λ h. omega (arith, h, w.if-at-len.false, c.len.ensures, a.words.now.ok))
      | else-at-len-via-then-at-len+in-None-1 w ↦ led_far a.words.now.items a.at a.to (search rules)
      | else-at-len-via-then-at-len+in-Some+in-None-1 w ↦
          let inside : a.at < length a.words.now.items =
          omega (arith, w.if-at-len.true, c.len.ensures, a.words.now.ok) in
          led_narrow a.words.now.items a.at a.to w.index.result.now w.in-Some.bytes w.in-Some.ensures.range
          (slice_get_read a.words.now.items (length a.words.now.items) a.at w.index.result.now refl inside
          w.index.ensures)
          w.in-Some.ensures.there (search rules)
    ]
