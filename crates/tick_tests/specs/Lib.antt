pub mod FirstKernel
