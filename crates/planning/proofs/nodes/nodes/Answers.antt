use Rattle.planning.specs.Building.{build_start, build_ready, build_small, build_step, build_end}
use Rattle.planning.proofs.nodes.nodes.Goals as goal

pub loop-n-init : goal.loop-n-init
loop-n-init c = search build_start

pub node-r-requires-clause-node_ready : goal.node-r-requires-clause-node_ready
node-r-requires-clause-node_ready c = search build_ready

pub node-r-requires-clause-n_bound : goal.node-r-requires-clause-n_bound
node-r-requires-clause-n_bound c = search build_small

pub loop-n-preserved : goal.loop-n-preserved
loop-n-preserved c = search build_step

pub returns : goal.returns
returns c = search build_end
