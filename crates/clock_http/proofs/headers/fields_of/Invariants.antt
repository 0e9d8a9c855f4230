use Rattle.std.proofs.Common.{◌≤◌, map, take, codes}
use Rattle.httparse.specs.Spans.{header_bytes}
use Rattle.clock_http.specs.inside.HeadFields.{AreLinesOf}
use Rattle.clock_http.proofs.headers.fields_of.Given as goal

-- the lines of each name among those so far
abbrev pub invariant-loop-header : goal.invariant-loop-header
invariant-loop-header l = record {
  codings : AreLinesOf l.text (codes "transfer-encoding")
      (map (header_bytes l.text) (take l.header-index l.headers)) l.fields.coding;
  lengths : AreLinesOf l.text (codes "content-length")
      (map (header_bytes l.text) (take l.header-index l.headers)) l.fields.length;
  authorizations : AreLinesOf l.text (codes "authorization")
      (map (header_bytes l.text) (take l.header-index l.headers)) l.fields.authorization;
  few : l.fields.coding.count ≤ l.header-index;
  few_lengths : l.fields.length.count ≤ l.header-index;
  few_authorizations : l.fields.authorization.count ≤ l.header-index;
}
