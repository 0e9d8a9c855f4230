use Rattle.std.proofs.Common.{◌≡◌, ◌-◌, ℕ, ap, arith, length, refl, sym}
use Rattle.clock_views.proofs.Pushes.{before, together}
use Rattle.clock_scripts.specs.RequestTexts.{request_head}
use Rattle.clock_scripts.proofs.requests.push_head.Goals as goal

pub returns : goal.returns
returns c =
    let head : c.len-head.result ≡ length c.args.text.now.items =
    omega (arith, c.len-head.ensures, c.args.text.now.ok.0) in record {
      from = refl;
      behind = head;
      until = omega (arith, c.len-end.ensures, c.push_label-4.new.text.ok.0);
      added = together (ap (λ (n : ℕ). request_head c.args.line.now c.args.token.now (n - c.args.body)) (sym head))
          (before c.in_ok-push_label.ensures
          (before c.in_ok-push_label-2.ensures
          (before c.in_ok-push_label-3.ensures
          (before c.in_ok-push_number.ensures c.in_ok-push_label-4.ensures))));
    }
