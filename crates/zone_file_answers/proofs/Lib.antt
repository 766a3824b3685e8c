mod FaultRows
mod ResponseLemmas
mod RefusalLemmas
