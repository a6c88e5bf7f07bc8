use Rattle.std.proofs.Common.{◌≡◌, ◌+◌}
use Rattle.std.specs.FinMap as fin
use Rattle.ras_module.specs.declared.call_key.CallKey.{CallKey}
use Rattle.admission.specs.Calls.{legs_of}
use Rattle.zone_tables.specs.Leaving.{AreSameButLent, HaveOthersLegs, rest_of}
use Rattle.zone_tables.proofs.bandwidth.Bandwidth.leave_all.Given as goal

-- some calls were left so far, and what will be left of all is the same
abbrev pub invariant-loop-gone : goal.invariant-loop-gone
invariant-loop-gone l = record {
  calls : (key : CallKey) → rest_of l.endpoint (fin.get l.self.usage.calls key)
      ≡ rest_of l.endpoint (fin.get l.fn.self.usage.calls key);
  others : HaveOthersLegs l.endpoint l.fn.self.usage.calls l.self.usage.calls;
  pools : AreSameButLent l.fn.self.usage.pools l.self.usage.pools;
  most : l.self.usage.most ≡ l.fn.self.usage.most;
  limit : l.self.usage.limit ≡ l.fn.self.usage.limit;
  call_limit : l.self.usage.call_limit ≡ l.fn.self.usage.call_limit;
  left : l._gone + legs_of l.self.usage.calls l.endpoint ≡ l.legs;
}
