pub mod RimLoops
