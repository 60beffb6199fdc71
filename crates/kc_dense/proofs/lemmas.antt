pub mod DenseParts
