-- Proves that the loop builds the line of each product, in order.
use Rattle.std.proofs.Common.{◌≡◌, ℕ, ◌++◌, ◌∷◌, [], ◌+◌, List, ap, sym, ◌∙◌, map, arith, length, length-append}
use Rattle.std.specs.List.{range_with_len}
use Rattle.std.proofs.lemmas.List.FromFn.{map-range_with_len_more}
use Rattle.clock_posting.specs.declared.sheet.Line.{Line}
use Rattle.clock_posting.specs.inside.RoundEnd.{line_of}
use Rattle.clock_posting.proofs.posting.RoundEnd.lines.Goals as goal

-- The lines with one more.
one_more : (f : ℕ → Line) (n : ℕ) (old new : List Line) (line : Line) → new ≡ old ++ line ∷ []
    → old ≡ map f (range_with_len 0 n) → line ≡ f n → new ≡ map f (range_with_len 0 (n + 1))
one_more f n old new line pushed so_far is = pushed ∙ ap (λ (lines : List Line). lines ++ line ∷ []) so_far
    ∙ ap (λ (one : Line). map f (range_with_len 0 n) ++ one ∷ []) is
    ∙ sym (map-range_with_len_more f 0 n n (omega arith))

pub loop-product-preserved : goal.loop-product-preserved
loop-product-preserved c =
    let old = c.loop-product.lines.items in
    record {
      lengths = ap length c.push.ensures.items ∙ length-append old (c.line.result ∷ [])
          ∙ ap (λ n. n + 1) c.loop-product.invariant.lengths;
      room = omega (arith, c.loop-product.invariant.room, c.push.ensures.room);
      so_far = one_more (line_of c.args.self.now) c.loop-product.product old c.push.new.self.items c.line.result
          c.push.ensures.items c.loop-product.invariant.so_far c.line.ensures;
    }
