-- Demand 3 is proved in two halves that meet in Passes: a tree's picks follow its own list (Used to Own), and dealing from
-- lists in turns has the totals and shares that are asked for (Deal). What else is proved of plans, every pick keeps.
-- What is proved of the other calls goes by rising job ids (JobIds to NothingLost) and by refusal 2's rules, which they keep
-- (GoodTrees to NextEnded).
pub mod Used
pub mod Windows
pub mod Picks
pub mod Own
pub mod Deal
pub mod Order
pub mod Passes
pub mod Distinct
pub mod Fresh
pub mod Demand3
pub mod Fuel
pub mod Disjoint
pub mod Shapes
pub mod Sources
pub mod Sums
pub mod PlanFits
pub mod ReadsBack
pub mod Validates
pub mod Rising
pub mod NamesOnce
pub mod PlanCall
pub mod PlanLaid
pub mod JobIds
pub mod Adding
pub mod Merging
pub mod Retention
pub mod Ending
pub mod NothingLost
pub mod GoodTrees
pub mod Sound
pub mod NextCall
pub mod NextEnded
pub mod NoSecondAnswer
pub mod Laws
