pub mod AgreedLemmas
