-- THE STATEMENT: all laws hold.
use Rattle.rules.specs.Finish.{finish_tree, drain_tree}
use Rattle.laws.specs.NothingLost.{TreeFinished, TreeDrained}
use Rattle.laws.specs.Laws.{Laws}
use Rattle.laws.proofs.Fresh.{sources-suffice}
use Rattle.laws.proofs.Demand3.{demand3}
use Rattle.laws.proofs.Fuel.{fuel}
use Rattle.laws.proofs.Disjoint.{disjoint}
use Rattle.laws.proofs.Shapes.{shapes}
use Rattle.laws.proofs.NamesOnce.{names-once}
use Rattle.laws.proofs.PlanFits.{plan-fits, plan-fits-lent}
use Rattle.laws.proofs.ReadsBack.{reads-back, keeps-lengths}
use Rattle.laws.proofs.Validates.{validates}
use Rattle.laws.proofs.PlanLaid.{plan-laid}
use Rattle.laws.proofs.PlanCall.{demand3-call, proposed, has-places}
use Rattle.laws.proofs.Adding.{added}
use Rattle.laws.proofs.Merging.{merges}
use Rattle.laws.proofs.Retention.{retains}
use Rattle.laws.proofs.Ending.{status-set, one-tree, finished-stays, tree-finished, drained-stays, tree-drained}
use Rattle.laws.proofs.NothingLost.{add-keeps, merge_keeps, retain-keeps, finish-keeps, drain-keeps}
use Rattle.laws.proofs.NextCall.{add-next, merge-next, retain-next}
use Rattle.laws.proofs.NextEnded.{finish-next, drain-next}
use Rattle.laws.proofs.NoSecondAnswer.{no-second-answer}

pub laws : Laws
laws = record {
  demand3 = demand3;
  sources_suffice = sources-suffice;
  demand3_call = demand3-call;
  proposed = proposed;
  fuel = fuel;
  disjoint = disjoint;
  shapes = shapes;
  names_once = names-once;
  plan_fits = plan-fits;
  plan_fits_lent = plan-fits-lent;
  plan_has_places = has-places;
  planned_validate = validates;
  plan_reads_back = reads-back;
  plan_keeps_lengths = keeps-lengths;
  plan_laid = plan-laid;
  added = added;
  merges = merges;
  retains = retains;
  status_set = status-set;
  finishes = λ k j out. one-tree k (finish_tree j out) (finished-stays j out) (TreeFinished j out) (tree-finished j out);
  drains = λ k j. one-tree k (drain_tree j) (drained-stays j) (TreeDrained j) (tree-drained j);
  add_keeps = add-keeps;
  merge_keeps = merge_keeps;
  retain_keeps = retain-keeps;
  finish_keeps = finish-keeps;
  drain_keeps = drain-keeps;
  add_next = add-next;
  merge_next = merge-next;
  retain_next = retain-next;
  finish_next = finish-next;
  drain_next = drain-next;
  no_second_answer = no-second-answer;
}
