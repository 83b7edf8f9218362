-- What is proved of the definitions of rules, of plans for every limit and so for every threshold. The proofs of these
-- statements stand in proofs/, in files of the same names.
pub mod Demand3
pub mod Examples
pub mod Fuel
pub mod Disjoint
pub mod Shapes
pub mod NamesOnce
pub mod PlanFits
pub mod ReadsBack
pub mod Validates
pub mod PlanCall
pub mod PlanLaid
pub mod NothingLost
pub mod NextCall
pub mod NoSecondAnswer
pub mod Laws
