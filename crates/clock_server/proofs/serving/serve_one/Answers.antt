use Rattle.std.proofs.Common.{◌≡◌, ◌≢◌, ◌≤◌, ◌<◌, ◌⊎◌, rules, Bool, List, ℕ, length, true, arith, inl, inr, refl, sym}
use Rattle.std.proofs.Common.{subst, ap, ◌∙◌}
use Rattle.std.proofs.lemmas.Result.{err_from_is_err_and}
use Rattle.clock_device.specs.Reports.{IsUnused, Reading, SinkReport, unused}
use Rattle.clock_connections.specs.Arrivals.{HasArrived}
use Rattle.clock_connections.proofs.LengthLaws.{short_arrived}
use Rattle.clock_journal.specs.Format.{most_text}
use Rattle.clock_front.specs.declared.front.response.Effect.TheVariants.{Nothing}
use Rattle.clock_server.specs.Keeping.{IsAccepted}
use Rattle.clock_server.proofs.EffectLaws.{accepted_where, change_where, logs_none, logs_where, some_bytes}
use Rattle.clock_server.proofs.Untouched.{untouched}
use Rattle.clock_server.proofs.serving.serve_one.Goals as goal
use Rattle.clock_server.proofs.serving.serve_one.Goals.{in-Ok, then-ne+in_ok-log-in-Ok, else-ne, in-Err-Memory}

-- no text that has arrived is too long for a journal, so the disk has failed
disk_failed : (reading : Reading) (text : List ℕ) (has_failed : Bool) → HasArrived reading text
    → (has_failed ≡ true) ⊎ (most_text < length text) → has_failed ≡ true
disk_failed reading text has_failed has (inl failed) = failed
disk_failed reading text has_failed has (inr long) = absurd (omega (arith, short_arrived reading text has))

-- no write was made
still_unused : (report : SinkReport) → IsUnused report → report ≡ unused report.taken
still_unused report is =
    let with_calls : ℕ → SinkReport =
    λ calls. record { taken = report.taken; calls = calls; has_failed = report.has_failed } in
    let with_failed : Bool → SinkReport =
    λ has_failed. record { taken = report.taken; calls = 0; has_failed = has_failed } in
    ap with_calls is.uncounted ∙ ap with_failed is.unfailed

pub log-requires-clause-some : goal.log-requires-clause-some
log-requires-clause-some g c = subst (λ (text : List ℕ). 1 ≤ length text) (sym c.as_slice.ensures)
    (some_bytes c.in-Ok.request c.respond-response.result c.args.front.now c.respond-response.new.self
    (c.respond-response.ensures.response c.in-Ok.request c.framing.ensures)
    (change_where c.respond-response.result.effect (search rules)))

pub returns-in_err-log-in-Ok-clause-served : goal.returns-in_err-log-in-Ok-clause-served
returns-in_err-log-in-Ok-clause-served g c =
    let p = err_from_is_err_and c.from_residual.result c.from_residual.ensures.1 in
    let reading : Reading = record {
      before = g.R.Source.report c.args.one.now.source;
      after = g.R.Source.report c.read_request.new.source;
    } in
    let has = subst (λ (text : List ℕ). HasArrived reading text) (sym c.as_slice.ensures) c.in-Ok.ensures.arrival in
    let responds = c.respond-response.ensures.response c.in-Ok.request c.framing.ensures in
    let changes = change_where c.respond-response.result.effect (search rules) in
    rw p.1 (
      record {
        text = c.as_slice.result.now;
        arrived = has;
        accepted = λ past stands. subst (λ (text : List ℕ). IsAccepted c.args.front.now.setup past text)
            (sym c.as_slice.ensures) (accepted_where past c.in-Ok.request c.respond-response.result c.args.front.now
            c.respond-response.new.self stands responds changes);
        failed = disk_failed reading c.as_slice.result.now _ has c.in_err-log-in-Ok.ensures.err;
        moments = c.in_err-log-in-Ok.ensures.moments;
        on_disk = c.in_err-log-in-Ok.ensures.on_disk;
      },
      (still_unused (g.W.Outlet.report c.args.one.now.sink) c.requires.unused, c.requires.unlogged),
    )

pub returns-in-Err-Read-clause-served : goal.returns-in-Err-Read-clause-served
returns-in-Err-Read-clause-served g c = inr (
  inr (
    rw c.in-Err-Read.field-0-is at c.in-Err-Read.ensures.arrival,
    (still_unused (g.W.Outlet.report c.args.one.now.sink) c.requires.unused, c.requires.unlogged),
  ),
  refl,
  refl,
  refl,
)

pub returns-clause-served : goal.returns-clause-served
returns-clause-served g c =
    let sends = rw c.bytes.ensures at c.reply.ensures in
    elim c.match-read_request.branch [
      | in-Ok w ↦
          let text = w.in-Ok.request in
          let changed = w.respond-response.result.effect in
          let responds = w.respond-response.ensures.response text w.framing.ensures in
          elim w.if-ne.branch [
            | then-ne+in_ok-log-in-Ok v ↦
                let ends = rw (w.response-is, w.log-is, v.log-is) at sends in
                let differs : changed ≢ Nothing = search rules in
                let logged = logs_where changed v.as_slice.result.now (g.K.RequestLog.journal c.args.log.now)
                (g.K.RequestLog.journal v.log.new.self)
                (change_where changed differs) v.in_ok-log-in-Ok.ensures.logged in
                rw (w.response-is, w.front-is, w.log-is, v.log-is) (inl (record {
                  text = text;
                  reply = w.respond-response.result.reply;
                  arrived = w.in-Ok.ensures.arrival;
                  responds = responds;
                  logged = rw v.as_slice.ensures at logged;
                  moments = rw v.as_slice.ensures at v.in_ok-log-in-Ok.ensures.moments;
                  sends = ends;
                }))
            | else-ne v ↦
                let ends = rw (w.response-is, w.log-is, v.log-is) at sends in
                let nothing : changed ≡ Nothing = search rules in
                rw (w.response-is, w.front-is, w.log-is, v.log-is) (inl (record {
                  text = text;
                  reply = w.respond-response.result.reply;
                  arrived = w.in-Ok.ensures.arrival;
                  responds = responds;
                  logged = logs_none changed text (g.K.RequestLog.journal c.args.log.now) nothing;
                  moments = untouched text (g.K.RequestLog.journal c.args.log.now);
                  sends = ends;
                }))
          ]
      | in-Err-Memory w ↦
          let ends = rw (w.response-is, w.log-is, w.no_memory_reply.ensures) at sends in
          rw (w.response-is, w.front-is, w.log-is) (inr (
            inl (rw w.in-Err-Memory.field-0-is at w.in-Err-Memory.ensures.arrival, ends),
            refl,
            refl,
            refl,
          ))
    ]
