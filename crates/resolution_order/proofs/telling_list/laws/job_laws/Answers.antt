use Rattle.resolution_order.proofs.telling_list.JobLaws.{job-laws}
use Rattle.resolution_order.proofs.telling_list.laws.job_laws.Goals as goal

pub returns : goal.returns
returns c = job-laws
