-- If a next clock price would be too high, posting round 1 has that fault.
use Rattle.std.proofs.Common.{◌≡◌, ℕ, List, Option, Some, None, Err, refl}
use Rattle.clock_posting.specs.Posting.{post_fault}
use Rattle.clock_posting.specs.declared.posting.PostFault.TheVariants as post
use Rattle.clock_console.specs.Prices.{unless_limited}
use Rattle.clock_console.specs.declared.fault.Fault.TheVariants as fault

pub limited : (limit : Option ℕ) (text : List ℕ) (product : ℕ) → post_fault limit ≡ Some (post.PriceLimit product)
    → unless_limited limit text ≡ Err (fault.PriceLimit product)
limited None text product e = cc
limited (Some found) text product e = let same : found ≡ product = cc in rw same refl
