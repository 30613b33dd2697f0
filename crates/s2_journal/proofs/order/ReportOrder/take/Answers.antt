use Rattle.std.proofs.Common.{◌≡◌, Some, sym, ◌∙◌, subst, inr}
use Rattle.s2_journal.specs.ReportOrder.{OrderState, order_fault}
use Rattle.s2_journal.proofs.OrderStates.{state_more}
use Rattle.s2_journal.proofs.WholeReports.{in_place}
use Rattle.s2_journal.proofs.order.ReportOrder.take.Goals as goal

pub count-requires : goal.count-requires
count-requires c = in_place c.args.self.now c.args.line.now c.in-Ok.said (sym c.fault.ensures ∙ c.in-None.is)

pub returns-in-None-clause-taken : goal.returns-in-None-clause-taken
returns-in-None-clause-taken c = λ before is. state_more before c.in-Ok.said c.args.self.now c.count.new.self is c.count.ensures.closing c.count.ensures.latest

pub returns-in-Some-clause-read : goal.returns-in-Some-clause-read
returns-in-Some-clause-read c = λ before is.
    let fault = sym c.fault.ensures ∙ c.in-Some.is in
    inr (c.in-Ok.said, c.in-Ok.ensures.read, subst (λ (s : OrderState). order_fault s c.args.line.now c.in-Ok.said ≡ Some c.in-Some.column) is fault)
