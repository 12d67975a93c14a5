use Rattle.std.proofs.Common.{rules, ◌≡◌, ap, ◌∙◌}
use Rattle.std.specs.Slice.Iter.{iter_rest}
use Rattle.hostname.specs.Scan.{nothing_read, may_end}
use Rattle.hostname.specs.Held.{host_bytes}
use Rattle.hostname.proofs.Hosts.{few_bytes}
use Rattle.hostname.proofs.Scans.{goes_on, scan, scan_tells, scan_folded}
use Rattle.hostname.proofs.hostname.Hostname.is_well_formed.Goals as goal

pub returns : goal.returns
returns c =
    let tested : c.is_some_and.result ≡ goes_on c.try_fold.result may_end = search rules in
    tested
    ∙ scan_folded _ _ _ (λ l x r q k. search rules) _ _ _ _ c.try_fold.ensures.ran
    ∙ ap (λ l. scan l (iter_rest c.iter.result)) c.empty.ensures
    ∙ ap (scan nothing_read) (c.iter.ensures.rest ∙ c.as_slice.ensures)
    ∙ scan_tells (host_bytes c.args.self.now) (few_bytes c.args.self.now)
