pub mod OddlyOrdered
